-- The digits of a number, from the last to the first, at the end of a table.
use Prim.Native.Nat.{ℕ, zero, suc, ◌+◌, ◌-◌, ◌/◌, ◌%◌, ◌^◌, ◌≤◌, ◌<◌}
use Prim.Native.Char.{code}
use native.Mathlib.Nat.{pow-suc}
use native.Mathlib.Omega.{arith}
use mathlib.Core.Path.{◌≡◌, refl, sym, ap, ◌∙◌, subst}
use mathlib.Core.Bool.{Bool, true, false, cond}
use mathlib.Core.List.{List, [], ◌∷◌}
use lib.ListN.{length, take, drop, set, length-set, length-drop, drop_of_length-le}
use lib.Seq.{take_all, drop-cons, drop-set-lt, get_or-set_same}
use lib.Dec.{ltb}
use borrow.Author.Tests.{lt-ltb, le-ltb, ltb-false}
use Rattle.paper.specs.Values.{digits_before, decimal}

-- the digits of n that are done stand from k on, and those of `left` come before them
pub record Digits (n left k : ℕ) (table : List ℕ) : Type 0 where
  pub size : length table ≡ 20
  pub some : 1 ≤ k
  pub most : k ≤ 20
  pub small : left < 10 ^ k
  fuel : ℕ
  enough : left < fuel
  is : digits_before fuel left (drop k table) ≡ decimal n

pub digits_start : (n : ℕ) (table : List ℕ) → n < 18446744073709551616 → length table ≡ 20 → Digits n n 20 table
digits_start n table h e =
    record {
      size = e;
      some = omega arith;
      most = omega arith;
      small = omega (arith, h);
      fuel = suc n;
      enough = omega arith;
      is = ap (digits_before (suc n) n) (drop_of_length-le table {i = 20} (omega (arith, e)));
    }

-- a digit before the others
before : (table : List ℕ) (k d : ℕ) → k < length table → drop k (set table k d) ≡ d ∷ drop (suc k) table
before table k d h =
    drop-cons (set table k d) k 0 (subst (λ (n : ℕ). k < n) (sym (length-set table k d)) h)
    ∙ (λ i. get_or-set_same table k d 0 h i ∷ drop-set-lt (suc k) table k d (omega arith) i)

module _ {n left k : ℕ} {table : List ℕ} (f : Digits n left k table) where
  last : suc (k - 1) ≡ k
  last = omega (arith, f.some)

  -- with the next digit put
  put : (d : ℕ) → drop (k - 1) (set table (k - 1) d) ≡ d ∷ drop k table
  put d = rw last at (before table (k - 1) d (omega (arith, f.size, f.some, f.most)))

  more : (m : ℕ) → left < m → 10 ≤ left
      → (g : ℕ) × (left / 10 < g) × (digits_before m left (drop k table) ≡ digits_before g (left / 10) ((left % 10 + code "0") ∷ drop k table))
  more zero h l = absurd (omega (arith, h))
  more (suc g) h l = (g, omega (arith, h, l), rw (le-ltb left 10 l) refl)

  end : (m : ℕ) → left < m → left < 10 → digits_before m left (drop k table) ≡ (left + code "0") ∷ drop k table
  end zero h l = absurd (omega (arith, h))
  end (suc g) h l = rw (lt-ltb left 10 l) refl

  pub digits_more : 10 ≤ left → Digits n (left / 10) (k - 1) (set table (k - 1) (48 + left % 10))
  digits_more l =
      let g = more f.fuel f.enough l in
      let p : 10 ^ (suc (k - 1)) ≡ 10 ^ k = ap (λ (i : ℕ). 10 ^ i) last in
      let q = pow-suc 10 (k - 1) in
      let d : 48 + left % 10 ≡ left % 10 + code "0" = omega arith in
      record {
        size = length-set table (k - 1) (48 + left % 10) ∙ f.size;
        some = two (k - 1) last;
        most = omega (arith, f.most);
        small = omega (arith, p, q, f.small);
        fuel = g.0;
        enough = g.1;
        is = ap (digits_before g.0 (left / 10)) (put (48 + left % 10) ∙ ap (λ (i : ℕ). i ∷ drop k table) d) ∙ sym g.2 ∙ f.is;
      }
    where
      two : (j : ℕ) → suc j ≡ k → 1 ≤ j
      two zero e = absurd (omega (arith, l, ap (λ (i : ℕ). 10 ^ i) e, f.small))
      two (suc j) e = omega arith

  pub digits_end : left < 10 → take (20 - (k - 1)) (drop (k - 1) (set table (k - 1) (48 + left))) ≡ decimal n
  digits_end l =
      let d : 48 + left ≡ left + code "0" = omega arith in
      let t = set table (k - 1) (48 + left) in
      take_all (20 - (k - 1)) (drop (k - 1) t) (omega (arith, length-drop (k - 1) t, length-set table (k - 1) (48 + left), f.size))
      ∙ put (48 + left)
      ∙ ap (λ (i : ℕ). i ∷ drop k table) d
      ∙ sym (end f.fuel f.enough l)
      ∙ f.is

-- ---- how many digits

few : (f n k : ℕ) (w : List ℕ) → 1 ≤ k → n < 10 ^ k → length (digits_before f n w) ≤ k + length w
few zero n k w h l = omega arith
few (suc f) n k w h l = go (ltb n 10) refl (λ q m. few f (n / 10) (k - 1) ((n % 10 + code "0") ∷ w) q m)
  where
    go : (t : Bool) → ltb n 10 ≡ t
        → (1 ≤ k - 1 → n / 10 < 10 ^ (k - 1) → length (digits_before f (n / 10) ((n % 10 + code "0") ∷ w)) ≤ k - 1 + suc (length w))
        → length (cond t ((n + code "0") ∷ w) (digits_before f (n / 10) ((n % 10 + code "0") ∷ w))) ≤ k + length w
    go true e r = omega (arith, h)
    go false e r =
        let m = ltb-false n 10 e in
        let q = pow-suc 10 (k - 1) in
        let p : 10 ^ (suc (k - 1)) ≡ 10 ^ k = ap (λ (i : ℕ). 10 ^ i) (omega (arith, h)) in
        omega (arith, r (two (k - 1) (omega (arith, h)) m) (omega (arith, p, q, l)), h)
      where
        two : (j : ℕ) → suc j ≡ k → 10 ≤ n → 1 ≤ j
        two zero z m = absurd (omega (arith, m, ap (λ (i : ℕ). 10 ^ i) z, l))
        two (suc j) z m = omega arith

-- a number of 64 bits has at most 20
pub decimal_short : (n : ℕ) → n < 18446744073709551616 → length (decimal n) ≤ 20
decimal_short n h = few (suc n) n 20 [] (omega arith) (omega (arith, h))
