-- The reply stands in the first bytes of the output, and of long input the first 2,073 bytes decide it.
use Prim.Native.Nat.{ℕ, ◌≤◌}
use mathlib.Core.Path.{◌≡◌, refl, sym, ap, ◌∙◌}
use mathlib.Core.Bool.{Bool, true, false, cond, true≢false}
use mathlib.Core.List.{List, [], ◌++◌}
use native.Mathlib.Omega.{arith}
use lib.Dec.{ltb}
use lib.ListN.{length, take, drop, length-append}
use Rattle.std.specs.Prelude.{Option, Some, None, is_none, Ok, Err}
use Rattle.refusals.specs.Refusals.{number_or_zero}
use Rattle.refusals.specs.declared.Refusal.{Refusal}
use Rattle.refusals.proofs.Refusing.{unrefused, refused_for}
use Rattle.listing.specs.Outcome.{refusal_of, writes, listed_of, reply, reply_length, with_reply}
use Rattle.listing.specs.Outcome as Listing
use Rattle.listing.proofs.Calls.{refused_call}
use Rattle.listing.proofs.Long.{long_refused}
use Rattle.listing.proofs.Room.{never_short}
use Rattle.listing.proofs.Prefix.{first_bytes_decide}
use Rattle.io.specs.Counts.{IsPrefixLen}
use Rattle.io.proofs.Counting.{prefix_len_of_le}
use Rattle.reply.specs.Reply.{reply_by, reply_of, output_of, room}

pub counted : (b output : List ℕ) (n : ℕ) (l : List ℕ) → n ≡ length (reply_of b (length output)) → l ≡ output_of b output
    → IsPrefixLen n l
counted b output n l e f =
    let w = reply_of b (length output) in
    prefix_len_of_le n l (omega (arith, e, ap length f, length-append w (drop (length w) output)))

-- a call that was answered
module _ (b output : List ℕ) (n : ℕ) (e : Ok n ≡ listed_of b (length output)) where
  none : refusal_of b (length output) ≡ None
  none = (unrefused (refusal_of b (length output)) (length (writes b (length output))) e).0

  whole : writes b (length output) ≡ reply_of b (length output)
  unfolding reply_of writes
  whole = rw none

  pub answered_length : n ≡ length (reply_of b (length output))
  answered_length = (unrefused (refusal_of b (length output)) (length (writes b (length output))) e).1 ∙ ap length whole

  pub answered_output : Listing.output_of b output ≡ output_of b output
  answered_output = ap (λ (l : List ℕ). l ++ drop (length l) output) whole

-- a call that was refused, which left the output as it was
module _ (b output : List ℕ) (r : Refusal) (e : Err r ≡ listed_of b (length output)) where
  refused : refusal_of b (length output) ≡ Some r
  refused = refused_for (refusal_of b (length output)) (length (writes b (length output))) e

  same : Listing.output_of b output ≡ output
  same = sym (refused_call b output r refused).1

  pub refused_length : reply_length (length (Listing.output_of b output)) ≡ length (reply_of b (length output))
  unfolding reply_of
  refused_length = rw (same, refused) (go (ltb (length output) 4))
    where
      go : (t : Bool) → cond t 0 4 ≡ length (cond t [] (reply (Some r)))
      go true = refl
      go false = refl

  pub refused_output : with_reply (Listing.output_of b output) (Some r) ≡ output_of b output
  unfolding reply_of
  refused_output = rw (same, refused) (go (ltb (length output) 4))
    where
      go : (t : Bool)
          → cond t output (reply (Some r) ++ drop 4 output) ≡ cond t [] (reply (Some r)) ++ drop (length (cond t [] (reply (Some r)))) output
      go true = refl
      go false = refl

pub ruleset replies = (answered_length, answered_output, refused_length, refused_output, counted)

-- what a refused call would have written is not in the reply
refused_alike : (r : Option Refusal) (w v : List ℕ) (outputs : ℕ) → is_none r ≡ false
    → reply_by r w outputs ≡ reply_by r v outputs
refused_alike None w v outputs e = absurd (true≢false e)
refused_alike (Some r) w v outputs e = refl

pub first_bytes_reply : (b : List ℕ) → 2073 ≤ length b → reply_of (take 2073 b) room ≡ reply_of b room
unfolding reply_of
first_bytes_reply b h =
    rw (first_bytes_decide b 2073 h (omega arith) room) (refused_alike (refusal_of b room) _ _ room (long_refused b room (omega arith)))

-- an output of that length is long enough for every listing
pub room_enough : (b : List ℕ) → number_or_zero (refusal_of b room) ≡ 2 → ⊥
room_enough b = never_short b room (omega arith)
