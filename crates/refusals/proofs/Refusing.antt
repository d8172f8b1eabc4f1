-- What holds of the first of two refusals, and what a result says of the refusal that it comes from.
use mathlib.Core.Path.{◌≡◌, refl}
use mathlib.Core.Bool.{Bool, true, false, false≢true}
use Rattle.std.specs.Prelude.{Option, Some, None, is_none, Ok, Err}
use Rattle.refusals.specs.declared.Refusal.{Refusal}
use Rattle.refusals.specs.Refusals.{◌before◌, refused_when, unless_refused}

pub none_is : (r : Option Refusal) → is_none r ≡ true → r ≡ None
none_is None e = refl
none_is (Some r) e = absurd (false≢true e)

-- what holds of the first of two refusals, and of the second where the first is none, holds of the one that comes first
module _ (P : Option Refusal → Type 0) where
  pub before_keeps : (r s : Option Refusal) → P r → (is_none r ≡ true → P s) → P (r before s)
  before_keeps None s h k = k refl
  before_keeps (Some r) s h k = h

  pub when_keeps : (t : Bool) (r : Refusal) → P None → P (Some r) → P (refused_when t r)
  when_keeps true r n h = h
  when_keeps false r n h = n

-- a call that was not refused returned its value, and one that was refused its refusal
pub unrefused : {A : Type 0} (r : Option Refusal) (a : A) {b : A} → Ok b ≡ unless_refused r a → (r ≡ None) × (b ≡ a)
unrefused None a e = (refl, cc)
unrefused (Some r) a e = absurd (cc)

pub refused_for : {A : Type 0} (r : Option Refusal) (a : A) {e : Refusal} → Err e ≡ unless_refused r a → r ≡ Some e
refused_for None a e = absurd (cc)
refused_for (Some r) a e = cc
