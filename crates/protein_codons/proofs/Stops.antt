-- Letters and stops, one letter after another.
use Prim.Native.Nat.{ℕ, suc, ◌+◌, ◌≤◌, ◌<◌}
use Prim.Native.Char.{code}
use native.Mathlib.Omega.{arith}
use mathlib.Core.Path.{◌≡◌, refl, sym, ap, ◌∙◌, subst}
use mathlib.Core.Bool.{Bool, true, false}
use mathlib.Core.List.{List, [], ◌∷◌, ◌++◌}
use lib.ListN.{length, take, get_or}
use lib.Seq.{get_or-take, length-take-le}
use lib.Dec.{ltb}
use borrow.Author.Tests.{ltb-true, ltb-false, eq-eqb, ne_eqb}
use borrow.Author.Count.{below_more}
use Rattle.paper.specs.Translation.{drop_stop, has_stop_inside}
use Rattle.protein_codons.specs.Letters.{NoStops, Clear}

-- ---- no stop

pub none_start : (l : List ℕ) (a : ℕ) → NoStops l a a
none_start l a = record { none = λ k h i. absurd (omega arith) }

module _ {l : List ℕ} {a b : ℕ} (h : NoStops l a b) where
  pub none_more : {c : ℕ} → c ≡ get_or l b 0 → (c ≡ code "*" → ⊥) → NoStops l a (b + 1)
  none_more e n = record { none = below_more _ b h.none (λ i z. n (e ∙ z)) }

  pub none_join : {c : ℕ} → NoStops l b c → NoStops l a c
  none_join {c} k = record { none = λ i below above. side i below above (ltb i b) refl }
    where
      side : (i : ℕ) → i < c → a ≤ i → (t : Bool) → ltb i b ≡ t → get_or l i 0 ≡ code "*" → ⊥
      side i below above true e = h.none i (ltb-true i b e) above
      side i below above false e = k.none i below (ltb-false i b e)

pub clear_start : {low high : ℕ} (l : List ℕ) → low ≤ high → Clear low high l 0
clear_start l h = record { within = omega arith; clear = none_start l 0 }

-- that many
pub clear_are : {low high n m : ℕ} {l : List ℕ} → Clear low high l n → n ≡ m → Clear low high l m
clear_are {low} {high} {l = l} h e = subst (Clear low high l) e h

module _ {c : ℕ} (n : c ≡ code "*" → ⊥) where
  pub keep_letter : (l : List ℕ) → drop_stop (c ∷ l) ≡ c ∷ drop_stop l
  keep_letter [] = rw (ne_eqb c (code "*") n)
  keep_letter (y ∷ l) = refl

  clear_letter : (l : List ℕ) → has_stop_inside (c ∷ l) ≡ has_stop_inside l
  clear_letter l = rw (keep_letter l, ne_eqb (code "*") c (λ e. n (sym e)))

-- ---- n letters, none of them a stop

pub record Front (d : List ℕ) (n : ℕ) : Type 0 where
  pub size : length d ≡ n
  pub clear : NoStops d 0 n

pub front_one : {c : ℕ} → (c ≡ code "*" → ⊥) → Front (c ∷ []) 1
front_one {c} n =
    record {
      size = refl;
      clear = record { none = λ k b a e. let z : k ≡ 0 = omega arith in n (ap (λ (i : ℕ). get_or (c ∷ []) i 0) (sym z) ∙ e) };
    }

pub front_take : {l : List ℕ} {n : ℕ} → n ≤ length l → NoStops l 0 n → Front (take n l) n
front_take {l} {n} k h =
    record {
      size = length-take-le n l k;
      clear = record { none = λ i b a e. h.none i b a (sym (get_or-take n l i 0 b) ∙ e) };
    }

-- its first letter, and the others
front_first : {c : ℕ} {d : List ℕ} {n : ℕ} → Front (c ∷ d) n → c ≡ code "*" → ⊥
front_first f = f.clear.none 0 (omega (arith, f.size)) (omega arith)

front_others : {c : ℕ} {d : List ℕ} {n : ℕ} → Front (c ∷ d) n → Front d (length d)
front_others f =
    record {
      size = refl;
      clear = record { none = λ k b a. f.clear.none (suc k) (omega (arith, f.size)) (omega arith) };
    }

keep_letters : (d l : List ℕ) {n : ℕ} → Front d n → drop_stop (d ++ l) ≡ d ++ drop_stop l
keep_letters [] l f = refl
keep_letters (c ∷ d) l f = keep_letter (front_first f) (d ++ l) ∙ ap (λ (z : List ℕ). c ∷ z) (keep_letters d l (front_others f))

clear_letters : (d l : List ℕ) {n : ℕ} → Front d n → has_stop_inside (d ++ l) ≡ has_stop_inside l
clear_letters [] l f = refl
clear_letters (c ∷ d) l f = clear_letter (front_first f) (d ++ l) ∙ clear_letters d l (front_others f)

module _ {d : List ℕ} {n : ℕ} (f : Front d n) where
  pub keep_front : (l : List ℕ) → drop_stop (d ++ l) ≡ d ++ drop_stop l
  keep_front l = keep_letters d l f

  pub clear_front : (l : List ℕ) → has_stop_inside (d ++ l) ≡ has_stop_inside l
  clear_front l = clear_letters d l f

-- ---- a stop

-- "A stop as the last whole codon is dropped; any other stop is 'inside'."
module _ {c : ℕ} (e : c ≡ code "*") where
  pub stop_last : drop_stop (c ∷ []) ≡ []
  stop_last = rw (eq-eqb c (code "*") e)

  pub stop_last_clear : has_stop_inside (c ∷ []) ≡ false
  stop_last_clear = rw stop_last

  pub stop_inside : (y : ℕ) (l : List ℕ) → has_stop_inside (c ∷ y ∷ l) ≡ true
  stop_inside y l = rw e
