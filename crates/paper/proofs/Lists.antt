-- Laws of lists: elements, counts and sums, also through a map.
use Prim.Native.Nat.{ℕ, zero, suc, ◌+◌, ◌≤◌, ◌<◌}
use native.Mathlib.Omega.{arith}
use mathlib.Core.Path.{◌≡◌, refl, sym, ap, ◌∙◌, subst}
use mathlib.Core.Logic.{◌⊎◌, inl, inr, ⊎_elim}
use mathlib.Core.List.{List, [], ◌∷◌, ◌++◌, map, append_assoc, append-nil}
use lib.ListN.{length}
use Rattle.paper.specs.Lists.{Nth, ◌∈◌, Numbered, Count, end, has, lacks, gather}

pub nth_once : {A : Type 0} (l : List A) (i : ℕ) (x y : A) → Nth l i x → Nth l i y → x ≡ y
nth_once [] i x y h k = absurd h
nth_once (z ∷ l) zero x y h k = h ∙ sym k
nth_once (z ∷ l) (suc i) x y h k = nth_once l i x y h k

pub nth_inside : {A : Type 0} (l : List A) (i : ℕ) (x : A) → Nth l i x → i < length l
nth_inside [] i x h = absurd h
nth_inside (y ∷ l) zero x h = omega arith
nth_inside (y ∷ l) (suc i) x h = omega (arith, nth_inside l i x h)

-- a number stands for one element
pub numbered_once : {A : Type 0} (l : List A) (k : ℕ) (x y : A) → Numbered l k x → Numbered l k y → x ≡ y
numbered_once l k x y a b = nth_once l a.0 x y a.2 (subst (λ (i : ℕ). Nth l i y) (omega (arith, a.1, b.1)) b.2)

-- it is one of 1 to their count
pub numbered_inside : {A : Type 0} (l : List A) (k : ℕ) (x : A) → Numbered l k x → (1 ≤ k) × (k ≤ length l)
numbered_inside l k x n = let h = nth_inside l n.0 x n.2 in (omega (arith, n.1), omega (arith, n.1))

-- what holds of each element, by its number from 0
abbrev pub EachAt : {A : Type 0} → (ℕ → A → Type 0) → List A → Type 0
EachAt R [] = Unit {0}
EachAt R (x ∷ l) = R 0 x × EachAt (λ (i : ℕ). R (suc i)) l

pub each_at : {A : Type 0} (R : ℕ → A → Type 0) (l : List A) → EachAt R l → (i : ℕ) (x : A) → Nth l i x → R i x
each_at R [] h i x n = absurd n
each_at R (y ∷ l) h zero x n = subst (R 0) (sym n) h.0
each_at R (y ∷ l) h (suc i) x n = each_at (λ (i : ℕ). R (suc i)) l h.1 i x n

-- the same whatever the number
abbrev pub Every : {A : Type 0} → (A → Type 0) → List A → Type 0
Every P = EachAt (λ i. P)

pub every : {A : Type 0} (P : A → Type 0) (l : List A) → Every P l → (x : A) → x ∈ l → P x
every P l h x m = each_at (λ i. P) l h m.0 x m.1

-- a property counts once
pub count_once : {A : Type 0} {C : A → Type 0} {l : List A} {n m : ℕ} → Count C l n → Count C l m → n ≡ m
count_once end end = refl
count_once (has c r) (has d s) = ap suc (count_once r s)
count_once (has c r) (lacks d s) = absurd (d c)
count_once (lacks c r) (has d s) = absurd (c d)
count_once (lacks c r) (lacks d s) = count_once r s

-- two properties that each element has both of or none count alike
pub count_as : {A : Type 0} (C D : A → Type 0) → ((a : A) → C a → D a) → ((a : A) → D a → C a) → {l : List A} {n : ℕ} → Count C l n → Count D l n
count_as C D to of end = end
count_as C D to of (has {a = a} c r) = has (to a c) (count_as C D to of r)
count_as C D to of (lacks {a = a} c r) = lacks (λ d. c (of a d)) (count_as C D to of r)

-- one that each element has counts them all
pub count_every : {A : Type 0} (C : A → Type 0) → ((a : A) → C a) → {l : List A} {n : ℕ} → Count C l n → n ≡ length l
count_every C each end = refl
count_every C each (has c r) = ap suc (count_every C each r)
count_every C each (lacks {a = a} c r) = absurd (c (each a))

module _ {A B : Type 0} (f : A → B) where
  nth-map : (l : List A) (i : ℕ) (x : A) → Nth l i x → Nth (map f l) i (f x)
  nth-map [] i x h = absurd h
  nth-map (y ∷ l) zero x h = ap f h
  nth-map (y ∷ l) (suc i) x h = nth-map l i x h

  map-nth : (l : List A) (i : ℕ) (y : B) → Nth (map f l) i y → (x : A) × Nth l i x × (y ≡ f x)
  map-nth [] i y h = absurd h
  map-nth (x ∷ l) zero y h = (x, refl, h)
  map-nth (x ∷ l) (suc i) y h = map-nth l i y h

  pub numbered_map : (l : List A) (k : ℕ) (x : A) → Numbered l k x → Numbered (map f l) k (f x)
  numbered_map l k x h = (h.0, h.1, nth-map l h.0 x h.2)

  -- what holds of the image of each numbered element holds of each numbered element of the image
  pub of_numbered : (l : List A) (R : ℕ → B → Type 0) → ((k : ℕ) (x : A) → Numbered l k x → R k (f x))
      → (k : ℕ) (y : B) → Numbered (map f l) k y → R k y
  of_numbered l R g k y h =
      let x = map-nth l h.0 y h.2 in subst (R k) (sym x.2) (g k x.0 (h.0, h.1, x.1))

  pub in_map : (l : List A) (x : A) → x ∈ l → f x ∈ map f l
  in_map l x h = (h.0, nth-map l h.0 x h.1)

  pub of_map : (l : List A) (R : B → Type 0) → ((x : A) → x ∈ l → R (f x)) → (y : B) → y ∈ map f l → R y
  of_map l R g y h = let x = map-nth l h.0 y h.1 in subst R (sym x.2) (g x.0 (h.0, x.1))

  module _ (C : A → Type 0) (D : B → Type 0) where
    pub count_map : ((a : A) → C a → D (f a)) → ((a : A) → D (f a) → C a) → {l : List A} {n : ℕ} → Count C l n → Count D (map f l) n
    count_map to of end = end
    count_map to of (has {a = a} c r) = has (to a c) (count_map to of r)
    count_map to of (lacks {a = a} c r) = lacks (λ d. c (of a d)) (count_map to of r)

    pub map_count : ((a : A) → C a → D (f a)) → ((a : A) → D (f a) → C a) → (l : List A) {n : ℕ} → Count D (map f l) n → Count C l n
    map_count to of [] end = end
    map_count to of (a ∷ l) (has d r) = has (of a d) (map_count to of l r)
    map_count to of (a ∷ l) (lacks d r) = lacks (λ c. d (to a c)) (map_count to of l r)

  pub length-map : (l : List A) → length (map f l) ≡ length l
  length-map [] = refl
  length-map (x ∷ l) = ap suc (length-map l)

  pub map-append : (l k : List A) → map f (l ++ k) ≡ map f l ++ map f k
  map-append [] k = refl
  map-append (x ∷ l) k = ap (◌∷◌ (f x)) (map-append l k)

-- ---- elements of lists put together

-- an element of two lists together is of one of them
pub of_append : {A : Type 0} (l k : List A) (x : A) → x ∈ (l ++ k) → (x ∈ l) ⊎ (x ∈ k)
of_append [] k x m = inr m
of_append (y ∷ l) k x (zero, n) = inl (0, n)
of_append (y ∷ l) k x (suc i, n) = up (of_append l k x (i, n))
  where
    up : (x ∈ l) ⊎ (x ∈ k) → (x ∈ (y ∷ l)) ⊎ (x ∈ k)
    up (inl m) = inl (suc m.0, m.1)
    up (inr m) = inr m

module _ {A : Type 0} where
  pub in_first : (l k : List A) (x : A) → x ∈ l → x ∈ (l ++ k)
  in_first [] k x m = absurd m.1
  in_first (y ∷ l) k x (zero, n) = (0, n)
  in_first (y ∷ l) k x (suc i, n) = let m = in_first l k x (i, n) in (suc m.0, m.1)

  pub in_second : (l k : List A) (x : A) → x ∈ k → x ∈ (l ++ k)
  in_second [] k x m = m
  in_second (y ∷ l) k x m = let n = in_second l k x m in (suc n.0, n.1)

  pub in_gather : {B : Type 0} (f : B → List A) (l : List B) (b : B) → b ∈ l → (x : A) → x ∈ f b → x ∈ gather f l
  in_gather f [] b m x h = absurd m.1
  in_gather {B} f (c ∷ l) b (zero, n) x h = in_first (f c) (gather f l) x (subst (λ (d : B). x ∈ f d) n h)
  in_gather f (c ∷ l) b (suc i, n) x h = in_second (f c) (gather f l) x (in_gather f l b (i, n) x h)

  -- what holds of all that f gives for each element holds of all that is gathered
  pub of_gather : {B : Type 0} (f : B → List A) (l : List B) (R : A → Type 0) → ((b : B) → b ∈ l → (x : A) → x ∈ f b → R x)
      → (x : A) → x ∈ gather f l → R x
  of_gather f [] R g x m = absurd m.1
  of_gather f (b ∷ l) R g x m =
      ⊎_elim (g b (0, refl) x) (of_gather f l R (λ c i. g c (suc i.0, i.1)) x) (of_append (f b) (gather f l) x m)

  pub gather_append : {B : Type 0} (f : B → List A) (l k : List B) → gather f (l ++ k) ≡ gather f l ++ gather f k
  gather_append f [] k = refl
  gather_append f (b ∷ l) k = ap (◌++◌ (f b)) (gather_append f l k) ∙ sym (append_assoc (f b) (gather f l) (gather f k))

  -- a list taken apart at one of its elements
  pub record Parted (l : List A) (i : ℕ) : Type 0 where
    pub before : List A
    pub item : A
    pub behind : List A
    pub is : l ≡ before ++ (item ∷ behind)
    pub size : length before ≡ i
    pub nth : Nth l i item

  pub parted : (l : List A) (i : ℕ) → i < length l → Parted l i
  parted [] i h = absurd (omega (arith, h))
  parted (y ∷ l) zero h = record { before = []; item = y; behind = l; is = refl; size = refl; nth = refl }
  parted (y ∷ l) (suc i) h =
      let r = parted l i (omega (arith, h)) in
      record { before = y ∷ r.before; item = r.item; behind = r.behind; is = ap (◌∷◌ y) r.is; size = ap suc r.size; nth = r.nth }

  pub number_in : (l : List A) (k : ℕ) (x : A) → Numbered l k x → x ∈ l
  number_in l k x n = (n.0, n.2)

pub gather_last : {A B : Type 0} (f : A → List B) (l : List A) (a : A) → gather f (l ++ (a ∷ [])) ≡ gather f l ++ f a
gather_last f l a = gather_append f l (a ∷ []) ∙ ap (◌++◌ (gather f l)) (append-nil (f a))

pub gather_parted : {A B : Type 0} (f : A → List B) {l : List A} {i : ℕ} (p : Parted l i) → gather f l ≡ gather f p.before ++ (f p.item ++ gather f p.behind)
gather_parted f p = ap (gather f) p.is ∙ gather_append f p.before (p.item ∷ p.behind)

-- ---- sums

-- of what n gives for each element
abbrev pub total : {A : Type 0} → (A → ℕ) → List A → ℕ
total n [] = 0
total n (a ∷ l) = n a + total n l

pub total-append : {A : Type 0} (n : A → ℕ) (u v : List A) → total n (u ++ v) ≡ total n u + total n v
total-append n [] v = omega arith
total-append n (a ∷ u) v = omega (arith, total-append n u v)
