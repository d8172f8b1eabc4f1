-- "Accept it piece by piece, a piece of no bytes counting too, with a state handed back each time" (document 02, P6). What a state
-- keeps, which refusal has come once so many bytes have, and which states some calls from a fresh one produce.
use Rattle.std.specs.Prelude.{ℕ, ◌-◌, List, [], ◌++◌, Bool, true, false, cond, not, ◌&&◌, length, take, drop, replicate, leb, eqb, Option, Some, None, is_none}
use Rattle.std.specs.List.{list_all}
use Rattle.refusals.specs.declared.Refusal.{Refusal}
use Rattle.refusals.specs.declared.Refusal.TheVariants.{Function, Output, Start, Cut, Limits, After, Count, Different, State}
use Rattle.refusals.specs.Refusals.{is_cut, ◌before◌, refused_when}
use Rattle.listing.specs.Longest.{longest, longest_answered}
use Rattle.listing.specs.Outcome.{refusal_of}
use Rattle.piece_state.specs.declared.Pieces.{Pieces}

-- the bytes so far, zeros after them, how many they are, and the refusal, if one has come
unfoldable pub keeping : List ℕ → Option Refusal → Pieces
keeping b r = record { bytes = b ++ replicate (longest - length b) 0; count = length b; refusal = r }

abbrev pub fresh_state : Pieces
fresh_state = keeping [] None

-- "However it was cut, the answered bytes or the refusal are those of the whole listing, except that the cut-short refusal comes
-- only at the end call": what the listing call refuses these bytes for where its output is long enough for any answered listing, but
-- for 4. "4 and 2 only at the end call".
unfoldable pub so_far_of : List ℕ → Option Refusal
so_far_of b = cond (is_cut (refusal_of b longest_answered)) None (refusal_of b longest_answered)

-- and with more bytes after them than any listing has
abbrev pub after_more : Option Refusal → Option Refusal
after_more r = r before Some After

-- the state once these bytes have come: refused, it keeps none of them
unfoldable pub state_after_of : List ℕ → Pieces
state_after_of b = cond (is_none (so_far_of b)) (keeping b None) (keeping [] (so_far_of b))

-- "a handed-in state that no calls from a fresh one produce": those that some calls produce are found so. The bytes so far, zeros after
-- them; with no refusal, if these bytes have met none; and none of them with a refusal that the listing call gives.
abbrev pub bytes_so_far : Pieces → List ℕ
bytes_so_far s = take s.count s.bytes

abbrev pub all_zero : List ℕ → Bool
all_zero = list_all (λ x. eqb x 0)

abbrev pub from_listing : Refusal → Bool
from_listing Function = true
from_listing Output = true
from_listing Start = false
from_listing Cut = true
from_listing Limits = true
from_listing After = true
from_listing Count = false
from_listing Different = false
from_listing State = false

abbrev pub may_keep_of : Option Refusal → List ℕ → Bool
may_keep_of None b = is_none (so_far_of b)
may_keep_of (Some r) b = from_listing r && eqb (length b) 0

unfoldable pub produced : Pieces → Bool
produced s = leb s.count longest && (all_zero (drop s.count s.bytes) && may_keep_of s.refusal (bytes_so_far s))

-- "12 first"; then "After a refusal every later call repeats it and writes nothing": the refusal that a state brings
unfoldable pub handed_in_of : Pieces → Option Refusal
handed_in_of s = refused_when (not (produced s)) State before s.refusal
