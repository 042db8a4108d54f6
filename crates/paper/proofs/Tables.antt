-- A table's rule at each of its entries, from one equation of lists that antt computes over the whole table.
use Prim.Native.Nat.{ℕ, zero, suc, ◌+◌, ◌<◌}
use native.Mathlib.Nat.{le_of_suc-le-suc, not-suc-le-zero}
use native.Mathlib.Omega.{arith}
use mathlib.Core.Path.{◌≡◌, sym, ap, ◌∙◌}
use mathlib.Core.Bool.{Bool, true, ◌&&◌, and-eq-true_iff}
use mathlib.Core.List.{List, [], ◌∷◌, map}
use lib.ListN.{length, get_or, get_or-map}

-- what f gives for n numbers from i on
abbrev pub listed : {A : Type 0} → (ℕ → A) → ℕ → ℕ → List A
listed f i zero = []
listed f i (suc n) = f i ∷ listed f (suc i) n

listed_at : {A : Type 0} (f : ℕ → A) (i n k : ℕ) (d : A) → k < n → get_or (listed f i n) k d ≡ f (i + k)
listed_at f i zero k d h = absurd (not-suc-le-zero h)
listed_at f i (suc n) zero d h = ap f (omega arith)
listed_at f i (suc n) (suc k) d h = listed_at f (suc i) n k d (le_of_suc-le-suc h) ∙ ap f (omega arith)

-- the test: what g makes of the n entries is what f makes of their places. A right table passes it by `refl`
abbrev pub Test : {A : Type 0} → (ℕ → A) → (ℕ → A) → List ℕ → ℕ → Type 0
Test g f t n = map g t ≡ listed f 0 n

pub at_each : {A : Type 0} (g f : ℕ → A) (t : List ℕ) (n : ℕ) → Test g f t n → (k : ℕ) → k < n → g (get_or t k 0) ≡ f k
at_each g f t n test k h =
    sym (get_or-map g t k 0) ∙ ap (λ (l : List _). get_or l k (g 0)) test ∙ listed_at f 0 n k (g 0) h ∙ ap f (omega arith)

-- two functions are the same at each number below n, from one equation that antt computes
pub each_same : {A : Type 0} (f g : ℕ → A) (n : ℕ) → listed f 0 n ≡ listed g 0 n → (k : ℕ) → k < n → f k ≡ g k
each_same f g n same k h =
    let z : k ≡ 0 + k = omega arith in
    ap f z ∙ sym (listed_at f 0 n k (f 0) h) ∙ ap (λ (l : List _). get_or l k (f 0)) same ∙ listed_at g 0 n k (f 0) h ∙ ap g (sym z)

-- a test of each element and its number, from i on. It computes to `true` in half the time that an equation of two lists takes
abbrev pub all_from : {A : Type 0} → (ℕ → A → Bool) → ℕ → List A → Bool
all_from f i [] = true
all_from f i (x ∷ l) = f i x && all_from f (suc i) l

all_at : {A : Type 0} (f : ℕ → A → Bool) (i : ℕ) (l : List A) (d : A) → all_from f i l ≡ true → (k : ℕ) → k < length l → f (i + k) (get_or l k d) ≡ true
all_at f i [] d e k h = absurd (omega (arith, h))
all_at f i (x ∷ l) d e zero h = ap (λ (n : ℕ). f n x) (omega arith) ∙ ((and-eq-true_iff (f i x) (all_from f (suc i) l)).0 e).0
all_at f i (x ∷ l) d e (suc k) h =
    ap (λ (n : ℕ). f n (get_or l k d)) (omega arith) ∙ all_at f (suc i) l d ((and-eq-true_iff (f i x) (all_from f (suc i) l)).0 e).1 k (omega (arith, h))

pub each_at : {A : Type 0} (f : ℕ → A → Bool) (l : List A) (d : A) → all_from f 0 l ≡ true → (k : ℕ) → k < length l → f k (get_or l k d) ≡ true
each_at f l d e k h = ap (λ (n : ℕ). f n (get_or l k d)) (omega arith) ∙ all_at f 0 l d e k h
