-- The letter of a codon depends only on which letters its plain codons give: not on their order, nor on how often each is given.
use Prim.Native.Nat.{ℕ}
use Prim.Native.Char.{code}
use mathlib.Core.Path.{◌≡◌, refl, sym, ap, ◌∙◌}
use mathlib.Core.Bool.{Bool, true, false, true≢false, ◌||◌, cond, or-false, and-eq-true_iff}
use mathlib.Core.List.{List, [], ◌∷◌}
use lib.Dec.{eqb}
use borrow.Author.Tests.{eqb-true, eq-eqb}
use Rattle.paper.specs.Bytes.{among}
use Rattle.paper.specs.Translation.{all_among, shared, give_exactly, most_restrictive}

among_all : (a b : List ℕ) → all_among b a ≡ true → (x : ℕ) → among a x ≡ true → among b x ≡ true
among_all [] b h x e = absurd (true≢false (sym e))
among_all (y ∷ a) b h x e = let p = (and-eq-true_iff (among b y) (all_among b a)).0 h in go (eqb x y) refl e p.0 (among_all a b p.1 x)
  where
    go : (t : Bool) → eqb x y ≡ t → t || among a x ≡ true → among b y ≡ true → (among a x ≡ true → among b x ≡ true) → among b x ≡ true
    go true q e first others = ap (among b) (eqb-true x y q) ∙ first
    go false q e first others = others e

all_trans : (a b c : List ℕ) → all_among b a ≡ true → all_among c b ≡ true → all_among c a ≡ true
all_trans [] b c h k = refl
all_trans (x ∷ a) b c h k =
    let p = (and-eq-true_iff (among b x) (all_among b a)).0 h in
    (and-eq-true_iff (among c x) (all_among c a)).1 (among_all b c k x p.0, all_trans a b c p.1 k)

-- where all letters of a list are the first one, so are those of any list of the same letters
alone : (x y : ℕ) (l m : List ℕ) → all_among (x ∷ l) (y ∷ m) ≡ true → all_among (x ∷ []) l ≡ true → (y ≡ x) × (all_among (y ∷ []) m ≡ true)
alone x y l m h e =
    let first : among (x ∷ []) x ≡ true = ap (λ (t : Bool). t || false) (eq-eqb x x refl) in
    let all = all_trans (y ∷ m) (x ∷ l) (x ∷ []) h ((and-eq-true_iff (among (x ∷ []) x) (all_among (x ∷ []) l)).1 (first, e)) in
    let p = (and-eq-true_iff (among (x ∷ []) y) (all_among (x ∷ []) m)).0 all in
    let q : y ≡ x = eqb-true y x (sym (or-false (eqb y x)) ∙ p.0) in
    (q, ap (λ (z : ℕ). all_among (z ∷ []) m) q ∙ p.1)

shared_same : (l m : List ℕ) → all_among m l ≡ true → all_among l m ≡ true → shared l ≡ shared m
shared_same [] [] h k = refl
shared_same [] (y ∷ m) h k = absurd (true≢false (sym k))
shared_same (x ∷ l) [] h k = absurd (true≢false (sym h))
shared_same (x ∷ l) (y ∷ m) h k = go (all_among (x ∷ []) l) (all_among (y ∷ []) m) refl refl
  where
    go : (p q : Bool) → all_among (x ∷ []) l ≡ p → all_among (y ∷ []) m ≡ q → cond p x (code "X") ≡ cond q y (code "X")
    go true true e f = sym (alone x y l m k e).0
    go true false e f = absurd (true≢false (sym (alone x y l m k e).1 ∙ f))
    go false true e f = absurd (true≢false (sym (alone y x m l h f).1 ∙ e))
    go false false e f = refl

-- two tests of which each holds where the other does
both_ways : (p q : Bool) → (p ≡ true → q ≡ true) → (q ≡ true → p ≡ true) → p ≡ q
both_ways true q f g = sym (f refl)
both_ways false true f g = g refl
both_ways false false f g = refl

exactly_same : (those l m : List ℕ) → all_among m l ≡ true → all_among l m ≡ true → give_exactly those l ≡ give_exactly those m
exactly_same those l m h k =
    let e : (x : List ℕ) → all_among x l ≡ all_among x m =
    λ x. both_ways (all_among x l) (all_among x m) (all_trans m l x k) (all_trans l m x h) in
    let f : (x : List ℕ) → all_among l x ≡ all_among m x =
    λ x. both_ways (all_among l x) (all_among m x) (λ i. all_trans x l m i h) (λ i. all_trans x m l i k) in
    simp (e, f)

-- two lists of the same letters have one letter
pub restrictive_same : (l m : List ℕ) → all_among m l ≡ true → all_among l m ≡ true → most_restrictive l ≡ most_restrictive m
restrictive_same l m h k =
    let e : (those : List ℕ) → give_exactly those l ≡ give_exactly those m = λ those. exactly_same those l m h k in
    simp (e, shared_same l m h k)
