-- The places of two answered listings, by number: what is asked there, and the answers.
use Prim.Native.Nat.{ℕ, zero, suc, ◌+◌, ◌*◌, ◌<◌}
use mathlib.Core.Path.{◌≡◌, refl, sym, ap, ◌∙◌}
use mathlib.Core.List.{List, [], ◌∷◌, map}
use native.Mathlib.Omega.{arith}
use native.Mathlib.Nat.{zero-mul, suc-mul}
use lib.ListN.{length, get_or, length-append, length-map, get_or-append}
use lib.Seq.{get_or-append-add}
use Rattle.comparison.specs.Differences.{Ask, ask, Place, asked, places}

pub length-asked : (fs ps : List ℕ) → length (asked fs ps) ≡ length fs * length ps
length-asked [] ps = sym (zero-mul (length ps))
length-asked (f ∷ fs) ps =
    length-append (map (ask f) ps) (asked fs ps)
    ∙ omega (arith, length-map ps (ask f), length-asked fs ps, suc-mul (length fs) (length ps))

get_d_map : (f : ℕ) (ps : List ℕ) (r : ℕ) → r < length ps → get_or (map (ask f) ps) r (ask 0 0) ≡ ask f (get_or ps r 0)
get_d_map f [] r h = absurd (omega arith)
get_d_map f (p ∷ ps) zero h = refl
get_d_map f (p ∷ ps) (suc r) h = get_d_map f ps r (omega arith)

-- function q and pattern r
pub asked_at : (fs ps : List ℕ) (q r : ℕ) → q < length fs → r < length ps → get_or (asked fs ps) (q * length ps + r) (ask 0 0) ≡ ask (get_or fs q 0) (get_or ps r 0)
asked_at [] ps q r h k = absurd (omega arith)
asked_at (f ∷ fs) ps zero r h k =
    let e : zero * length ps + r ≡ r = omega (arith, zero-mul (length ps)) in
    rw e (get_or-append (map (ask f) ps) (asked fs ps) (ask 0 0) r (omega (arith, length-map ps (ask f))) ∙ get_d_map f ps r k)
asked_at (f ∷ fs) ps (suc q) r h k =
    let row = map (ask f) ps in
    let e : suc q * length ps + r ≡ length row + (q * length ps + r) = omega (arith, suc-mul q (length ps), length-map ps (ask f)) in
    rw e (get_or-append-add row (asked fs ps) (q * length ps + r) (ask 0 0) ∙ asked_at fs ps q r (omega arith) k)

-- a place where there is none
abbrev pub nowhere : Place
nowhere = record { function = 0; pattern = 0; first = 0; second = 0 }

pub length-places : (qs : List Ask) (xs ys : List ℕ) → length xs ≡ length qs → length ys ≡ length qs → length (places qs xs ys) ≡ length qs
length-places [] xs ys e f = refl
length-places (q ∷ qs) [] ys e f = absurd (omega arith)
length-places (q ∷ qs) (x ∷ xs) [] e f = absurd (omega arith)
length-places (q ∷ qs) (x ∷ xs) (y ∷ ys) e f = ap suc (length-places qs xs ys (omega arith) (omega arith))

pub place_at : (qs : List Ask) (xs ys : List ℕ) → length xs ≡ length qs → length ys ≡ length qs → (k : ℕ) → k < length qs
    → let q = get_or qs k (ask 0 0) in
    get_or (places qs xs ys) k nowhere ≡ record { function = q.function; pattern = q.pattern; first = get_or xs k 0; second = get_or ys k 0 }
place_at [] xs ys e f k h = absurd (omega arith)
place_at (q ∷ qs) [] ys e f k h = absurd (omega arith)
place_at (q ∷ qs) (x ∷ xs) [] e f k h = absurd (omega arith)
place_at (q ∷ qs) (x ∷ xs) (y ∷ ys) e f zero h = refl
place_at (q ∷ qs) (x ∷ xs) (y ∷ ys) e f (suc k) h = place_at qs xs ys (omega arith) (omega arith) k (omega arith)
