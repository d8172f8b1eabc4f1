-- The numbers of any width grow with the pattern, for any es.
use Rattle.std.proofs.Common.{◌≡◌, ℕ, zero, suc, ◌+◌, ◌-◌, ◌*◌, ◌/◌, ◌%◌, ◌^◌, ◌<◌, ◌≤◌, sym, refl, ap, ◌∙◌, subst, ⊎_elim, le_trans, le_of_eq, le_refl, lt_of_lt_of_le, le-add_right, mod-lt, mul_assoc, suc-mul, mul_comm, add-mul, mul-le-mul, lt_of_mul-lt-mul_right, eq-or-lt_of_le, mul-lt-mul_of_pos_right, mul-pos, one-mul, pow-suc, zero-mul, mul_left_comm, arith, pow_pos, pow_mono, pow-add}
use mathlib.Core.Path.{subst⁻¹}
use lib.Pow.{shr_mono, split}
use Rattle.posit.specs.Number.{magnitude}
use Rattle.posit.proofs.Run.{ones_at}
use Rattle.posit.proofs.Value.{floated, zeros_magnitude, ones-magnitude}

pub data Shape (N v r t q : ℕ) : Type 0 where
  zs : (m : ℕ) → N ≡ m + t → 1 ≤ m → v ≡ 2 ^ t + q → r ≡ t → Shape N v r t q
  os : (m : ℕ) → N ≡ m + t → 1 ≤ m → v ≡ ones_at m t q → r ≡ m + t + (m - 1) → Shape N v r t q

ones-suc : (m t q : ℕ) → ones_at m t (suc q) ≡ suc (ones_at m t q)
ones-suc zero t q = refl
ones-suc (suc m) t q = let k = ones-suc m t q in omega arith

-- the pattern with m ones, by its distance from the next power
pub ones-sum : (m t q : ℕ) → ones_at m t q + 2 ^ suc t ≡ 2 ^ (m + suc t) + q
ones-sum zero t q = let k : 2 ^ suc t ≡ 2 ^ (zero + suc t) = ap (λ (x : ℕ). 2 ^ x) (omega arith) in omega arith
ones-sum (suc m) t q =
    let k = ones-sum m t q in
    let e : 2 ^ (suc m + suc t) ≡ 2 ^ suc (m + suc t) = ap (λ (x : ℕ). 2 ^ x) (omega arith) in
    let d = pow-suc 2 (m + suc t) in
    omega arith

ones_carry : (m t q : ℕ) → suc q ≡ 2 ^ suc t → ones_at (suc m) t 0 ≡ suc (ones_at m (suc t) q)
ones_carry m t q e =
    let a = ones-sum (suc m) t 0 in
    let b = ones-sum m (suc t) q in
    let d : 2 ^ (suc m + suc t) ≡ 2 ^ (m + suc (suc t)) = ap (λ (x : ℕ). 2 ^ x) (omega arith) in
    let f = pow-suc 2 (suc t) in
    omega arith

module _ (es L N : ℕ) (fits : N ≤ L) where
  abbrev step : ℕ → ℕ
  step t = 2 ^ es * 2 ^ (L - t)

  abbrev pub index : ℕ → ℕ → ℕ → ℕ
  index r t q = r * 2 ^ es * 2 ^ L + q * 2 ^ es * 2 ^ (L - t)

  pub shape_magnitude : (v r t q : ℕ) → Shape N v r t q → q < 2 ^ t → magnitude es (N + 2) v * 2 ^ L ≡ floated L (index r t q)
  shape_magnitude v r t q (zs m e l ev er) h =
      ap (λ (x : ℕ). magnitude es (N + 2) x * 2 ^ L) ev ∙ zeros_magnitude es (N + 2) L m t q (omega arith) l h (omega arith)
      ∙ ap (λ (x : ℕ). floated L (index x t q)) (sym er)
  shape_magnitude v r t q (os m e l ev er) h =
      ap (λ (x : ℕ). magnitude es (N + 2) x * 2 ^ L) ev ∙ ones-magnitude es (N + 2) L m t q (omega arith) l h (omega arith)
      ∙ ap (λ (x : ℕ). floated L (index x t q)) (sym er)

  pub record Next (v r t q : ℕ) : Type 0 where
    pub r' : ℕ
    pub t' : ℕ
    pub q' : ℕ
    pub shape : Shape N (suc v) r' t' q'
    pub small : q' < 2 ^ t'
    pub far : index r' t' q' ≡ index r t q + step t

  -- one more at the same regime, and the first of the next regime
  pub same_far : (r t q : ℕ) → index r t (suc q) ≡ index r t q + step t
  same_far r t q =
      let a : suc q * 2 ^ es * 2 ^ (L - t) ≡ suc q * (2 ^ es * 2 ^ (L - t)) = mul_assoc (suc q) (2 ^ es) (2 ^ (L - t)) in
      let b : q * 2 ^ es * 2 ^ (L - t) ≡ q * (2 ^ es * 2 ^ (L - t)) = mul_assoc q (2 ^ es) (2 ^ (L - t)) in
      let d = suc-mul q (2 ^ es * 2 ^ (L - t)) in
      omega arith

  next_far : (r t t' q : ℕ) → t ≤ L → suc q ≡ 2 ^ t → index (suc r) t' 0 ≡ index r t q + step t
  next_far r t t' q k e =
      let p : 2 ^ t * 2 ^ (L - t) ≡ 2 ^ L = sym (pow-add 2 t (L - t)) ∙ ap (λ (x : ℕ). 2 ^ x) (let z : t + (L - t) ≡ L = omega arith in z) in
      let full : suc q * 2 ^ es * 2 ^ (L - t) ≡ 1 * 2 ^ es * 2 ^ L =
      ap (λ (x : ℕ). x * 2 ^ es * 2 ^ (L - t)) e
      ∙ (let z : 2 ^ t * 2 ^ es * 2 ^ (L - t) ≡ 2 ^ es * (2 ^ t * 2 ^ (L - t)) = simp (mul_assoc, mul_comm, mul_left_comm) in z)
      ∙ ap (λ (x : ℕ). 2 ^ es * x) p ∙ ap (λ (x : ℕ). x * 2 ^ L) (sym (one-mul (2 ^ es))) in
      let a = same_far r t q in
      let b : suc r * 2 ^ es * 2 ^ L ≡ r * 2 ^ es * 2 ^ L + 1 * 2 ^ es * 2 ^ L =
      ap (λ (x : ℕ). x * 2 ^ L) (suc-mul r (2 ^ es) ∙ ap (λ (y : ℕ). r * 2 ^ es + y) (sym (one-mul (2 ^ es)))) ∙ add-mul (r * 2 ^ es) (1 * 2 ^ es) (2 ^ L) in
      let n : 0 * 2 ^ es * 2 ^ (L - t') ≡ 0 = ap (λ (x : ℕ). x * 2 ^ (L - t')) (zero-mul (2 ^ es)) ∙ zero-mul (2 ^ (L - t')) in
      omega arith

  carry_ones : (v r t q m : ℕ) → N ≡ m + t → 1 ≤ m → v ≡ ones_at m t q → r ≡ m + t + (m - 1) → suc q ≡ 2 ^ t → v + 2 < 2 ^ suc N → Next v r t q
  carry_ones v r zero q m e l ev er k top =
      let a = ones-sum m zero q in
      let b : 2 ^ (m + suc zero) ≡ 2 ^ suc N = ap (λ (x : ℕ). 2 ^ x) (omega arith) in
      absurd (omega arith)
  carry_ones v r (suc t) q m e l ev er k top =
      record {
        r' = suc r;
        t' = t;
        q' = 0;
        shape = os (suc m) (omega arith) (omega arith) (ap suc ev ∙ sym (ones_carry m t q k)) (omega arith);
        small = pow_pos t;
        far = next_far r (suc t) t q (omega arith) k;
      }

  pub next : (v r t q : ℕ) → Shape N v r t q → q < 2 ^ t → v + 2 < 2 ^ suc N → Next v r t q
  next v r t q sh h top = ⊎_elim (λ e. carry sh e) (λ l. stay sh l) (eq-or-lt_of_le h)
    where
      stay : Shape N v r t q → suc q < 2 ^ t → Next v r t q
      stay (zs m e l ev er) k = record { r' = r; t' = t; q' = suc q; shape = zs m e l (omega arith) er; small = k; far = same_far r t q }
      stay (os m e l ev er) k = record { r' = r; t' = t; q' = suc q; shape = os m e l (ap suc ev ∙ sym (ones-suc m t q)) er; small = k; far = same_far r t q }

      carry : Shape N v r t q → suc q ≡ 2 ^ t → Next v r t q
      carry (zs zero e l ev er) k = absurd (omega arith)
      carry (zs (suc zero) e l ev er) k =
          record {
            r' = suc r;
            t' = t;
            q' = 0;
            shape = os 1 e l
                (let d : 2 ^ (0 + suc t) ≡ 2 ^ suc t = ap (λ (x : ℕ). 2 ^ x) (omega arith) in let f = pow-suc 2 t in omega arith) (omega arith);
            small = pow_pos t;
            far = next_far r t t q (omega arith) k;
          }
      carry (zs (suc (suc m)) e l ev er) k =
          record {
            r' = suc r;
            t' = suc t;
            q' = 0;
            shape = zs (suc m) (omega arith) (omega arith) (let d = pow-suc 2 t in omega arith) (omega arith);
            small = pow_pos (suc t);
            far = next_far r t (suc t) q (omega arith) k;
          }
      carry (os m e l ev er) k = carry_ones v r t q m e l ev er k top

  -- so the closed form holds one place further, up to the next regime
  pub next-magnitude : (v r t q : ℕ) → Shape N v r t q → q < 2 ^ t → v + 2 < 2 ^ suc N → magnitude es (N + 2) (suc v) * 2 ^ L ≡ floated L (index r t (suc q))
  next-magnitude v r t q sh h top = go (next v r t q sh h top)
    where
      go : Next v r t q → magnitude es (N + 2) (suc v) * 2 ^ L ≡ floated L (index r t (suc q))
      go n = shape_magnitude (suc v) n.r' n.t' n.q' n.shape n.small ∙ ap (floated L) (n.far ∙ sym (same_far r t q))

  pub record Found (v : ℕ) : Type 0 where
    pub r : ℕ
    pub t : ℕ
    pub q : ℕ
    pub shape : Shape N v r t q
    pub small : q < 2 ^ t

  -- each pattern has a regime
  pub find : (k : ℕ) → 1 ≤ N → k + 2 < 2 ^ suc N → Found (suc k)
  find zero l h = record { r = 0; t = 0; q = 0; shape = zs N (omega arith) l refl refl; small = omega arith }
  find (suc k) l h =
      let f = find k l (omega arith) in
      let n = next (suc k) f.r f.t f.q f.shape f.small (omega arith) in
      record { r = n.r'; t = n.t'; q = n.q'; shape = n.shape; small = n.small }

pub floated_grows : (L Z W : ℕ) → Z < W → floated L Z < floated L W
unfolding floated
floated_grows L Z W h = ⊎_elim same less (eq-or-lt_of_le (shr_mono L (let k : Z ≤ W = omega arith in k)))
  where
    same : Z / 2 ^ L ≡ W / 2 ^ L → (2 ^ L + Z % 2 ^ L) * 2 ^ (Z / 2 ^ L) < (2 ^ L + W % 2 ^ L) * 2 ^ (W / 2 ^ L)
    same e =
        let a = split Z L in
        let b = split W L in
        let d : Z / 2 ^ L * 2 ^ L ≡ W / 2 ^ L * 2 ^ L = ap (λ (x : ℕ). x * 2 ^ L) e in
        subst (λ (x : ℕ). (2 ^ L + Z % 2 ^ L) * 2 ^ (Z / 2 ^ L) < (2 ^ L + W % 2 ^ L) * 2 ^ x) e (mul-lt-mul_of_pos_right (omega arith) (pow_pos (Z / 2 ^ L)))

    less : Z / 2 ^ L < W / 2 ^ L → (2 ^ L + Z % 2 ^ L) * 2 ^ (Z / 2 ^ L) < (2 ^ L + W % 2 ^ L) * 2 ^ (W / 2 ^ L)
    less l =
        lt_of_lt_of_le (mul-lt-mul_of_pos_right {n = 2 ^ L * 2} (let k = mod-lt Z (pow_pos L) in omega arith) (pow_pos (Z / 2 ^ L)))
        (le_trans (le_of_eq (mul_assoc (2 ^ L) 2 (2 ^ (Z / 2 ^ L)) ∙ ap (λ (x : ℕ). 2 ^ L * x) (mul_comm 2 (2 ^ (Z / 2 ^ L)) ∙ sym (pow-suc 2 (Z / 2 ^ L)))))
        (mul-le-mul (le-add_right (2 ^ L) (W % 2 ^ L)) (pow_mono l)))

rises : (es L N v r t q : ℕ) (fits : N ≤ L) → Shape N v r t q → q < 2 ^ t → Next es L N fits v r t q → magnitude es (N + 2) v < magnitude es (N + 2) (suc v)
rises es L N v r t q fits sh h n =
    let p : 0 < 2 ^ es * 2 ^ (L - t) = mul-pos (pow_pos es) (pow_pos (L - t)) in
    let d = n.far in
    lt_of_mul-lt-mul_right (2 ^ L)
    (subst⁻¹ (λ (x : ℕ). x < magnitude es (N + 2) (suc v) * 2 ^ L) (shape_magnitude es L N fits v r t q sh h)
    (subst⁻¹ (λ (x : ℕ). floated L (index es L N fits r t q) < x) (shape_magnitude es L N fits (suc v) n.r' n.t' n.q' n.shape n.small)
    (floated_grows L (index es L N fits r t q) (index es L N fits n.r' n.t' n.q') (omega arith))))

risen : (es N v : ℕ) → v + 2 < 2 ^ suc N → Found es N N (le_refl N) v → magnitude es (N + 2) v < magnitude es (N + 2) (suc v)
risen es N v h f =
    rises es N N v f.r f.t f.q (le_refl N) f.shape f.small
    (next es N N (le_refl N) v f.r f.t f.q f.shape f.small h)

-- the numbers of width N + 2 grow, but for the last pattern
pub grows : (es N v : ℕ) → 1 ≤ N → v + 3 < 2 ^ suc N → magnitude es (N + 2) (suc v) < magnitude es (N + 2) (suc (suc v))
grows es N v l h = risen es N (suc v) (omega arith) (find es N N (le_refl N) v l (omega arith))
