-- Scans over bytes of a class: none yet, one byte more, one scan after another, and a scan of a narrower class.
use Prim.Native.Nat.{ℕ, ◌+◌, ◌-◌, ◌≤◌, ◌<◌}
use native.Mathlib.Decide.{dec_le}
use native.Mathlib.Omega.{arith}
use mathlib.Core.Path.{◌≡◌, ap, sym, ◌∙◌}
use mathlib.Core.Bool.{Bool, true, false, and-eq-true_iff}
use mathlib.Core.List.{List}
use lib.ListN.{length, get_or, take, drop, length-drop}
use lib.Seq.{length-take-le, get_or-take, get_or-drop}
use lib.Bits.{bit_or}
use lib.Dec.{eqb}
use borrow.Author.Tests.{le-leb, ne_eqb}
use Rattle.paper.proofs.Bits.{or_none}
use Rattle.read_bytes.specs.Numbers.{flag}
use Rattle.read_bytes.proofs.Numbers.{flag_none}
use Rattle.read_steps.specs.Texts.{allowed_in, is_plain, Upto, Below}
use Rattle.read_steps.proofs.Letters.{allowed}

module _ (f : ℕ → Bool) (s : List ℕ) where
  pub upto_none : (start : ℕ) → Upto f s start start
  upto_none start k h j = absurd (omega arith)

  pub upto_more : (start at : ℕ) → Upto f s start at → at < length s → f (get_or s at 0) ≡ true → Upto f s start (at + 1)
  upto_more start at u h p k i j = cases (dec_le at k)
    where
      cases : Dec (at ≤ k) → (k < length s) × (f (get_or s k 0) ≡ true)
      cases (yes l) =
          let e : k ≡ at = omega arith in
          (omega arith, ap (λ (n : ℕ). f (get_or s n 0)) e ∙ p)
      cases (no l) = u k i (omega arith)

  pub upto_join : (start mid at : ℕ) → Upto f s start mid → Upto f s mid at → Upto f s start at
  upto_join start mid at u v k i j = cases (dec_le mid k)
    where
      cases : Dec (mid ≤ k) → (k < length s) × (f (get_or s k 0) ≡ true)
      cases (yes l) = v k l j
      cases (no l) = u k i (omega arith)

  -- what holds of each byte of a stretch
  pub upto_part : (at stop : ℕ) → at ≤ stop → stop ≤ length s → Upto f (take (stop - at) (drop at s)) 0 (length (take (stop - at) (drop at s)))
      → Upto f s at stop
  upto_part at stop h g u k i j =
      let n = stop - at in
      let t = drop at s in
      let e : length (take n t) ≡ n = length-take-le n t (omega (arith, h, g, length-drop at s)) in
      let q : at + (k - at) ≡ k = omega arith in
      let p = u (k - at) (omega arith) (omega (arith, e, i, j)) in (
        omega (arith, g, j),
        ap f (ap (λ (m : ℕ). get_or s m 0) (sym q) ∙ sym (get_or-drop at s (k - at) 0) ∙ sym (get_or-take n t (k - at) 0 (omega (arith, i, j)))) ∙ p.1,
      )

-- the tests of a byte that stands for itself in every text
module _ (b : ℕ) where
  plain_tests : 32 ≤ b → b ≤ 126 → eqb b 60 ≡ false → eqb b 62 ≡ false → eqb b 38 ≡ false → eqb b 34 ≡ false → eqb b 39 ≡ false → is_plain false b ≡ true
  plain_tests l u e f g i j = simp (le-leb _ _ l, le-leb _ _ u, e, f, g, i, j)

  -- from `?` on up to `~` none of the five is left to ask for
  pub plain_high : 63 ≤ b → b ≤ 126 → is_plain false b ≡ true
  plain_high l u =
      plain_tests (omega (arith, l)) u (ne_eqb b 60 (λ e. omega (arith, l, e))) (ne_eqb b 62 (λ e. omega (arith, l, e)))
      (ne_eqb b 38 (λ e. omega (arith, l, e))) (ne_eqb b 34 (λ e. omega (arith, l, e))) (ne_eqb b 39 (λ e. omega (arith, l, e)))

  -- as numbers, joined
  pub plain_joined : (l u e f g i j : ℕ) → Below b 32 l → Below 126 b u → e ≡ flag (eqb b 60) → f ≡ flag (eqb b 62) → g ≡ flag (eqb b 38)
      → i ≡ flag (eqb b 34) → j ≡ flag (eqb b 39) → bit_or (bit_or (bit_or (bit_or (bit_or (bit_or l u) e) f) g) i) j ≡ 0 → is_plain false b ≡ true
  plain_joined l u e f g i j low high is-e is_f is-g is-i is-j h =
      let v = bit_or l u in
      let w = bit_or v e in
      let x = bit_or w f in
      let y = bit_or x g in
      let j' = or_none (bit_or y i) j h in
      let i' = or_none y i j'.0 in
      let g' = or_none x g i'.0 in
      let f' = or_none w f g'.0 in
      let e' = or_none v e f'.0 in
      let l' = or_none l u e'.0 in
      plain_tests (low.none l'.0) (high.none l'.1) (flag_none _ (sym is-e ∙ e'.1)) (flag_none _ (sym is_f ∙ f'.1))
      (flag_none _ (sym is-g ∙ g'.1)) (flag_none _ (sym is-i ∙ i'.1)) (flag_none _ (sym is-j ∙ j'.1))

-- what stands for itself in every text does so in each
pub plain_any : (high : Bool) (b : ℕ) → is_plain false b ≡ true → is_plain high b ≡ true
plain_any high b e =
    let q = (and-eq-true_iff (allowed_in false b) _).0 e in
    (and-eq-true_iff (allowed_in high b) _).1 (allowed high b q.0, q.1)

pub upto_any : (high : Bool) (s : List ℕ) (start at : ℕ) → Upto (is_plain false) s start at → Upto (is_plain high) s start at
upto_any high s start at u k i j = let h = u k i j in (h.0, plain_any high (get_or s k 0) h.1)
