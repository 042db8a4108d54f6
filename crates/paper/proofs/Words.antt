-- The vocabulary: a text that is one of some texts; a key has one row; its names are those of section 6.
use Prim.Native.Nat.{ℕ, zero, suc}
use mathlib.Core.Path.{◌≡◌, refl, sym, ap, ◌∙◌, subst}
use mathlib.Core.Bool.{Bool, true, false, ◌&&◌, ◌||◌, not, true≢false, and-eq-true_iff}
use mathlib.Core.Logic.{inl, inr}
use mathlib.Core.List.{List, [], ◌∷◌, ◌++◌, map}
use Rattle.paper.specs.Bytes.{same}
use Rattle.paper.specs.Lists.{◌∈◌}
use Rattle.paper.specs.Vocabulary.{Row, nucleotide_names, is_one_of}
use Rattle.paper.specs.Rules.{Kind, dna, rna, aa, vocabulary, RowOf, Allows}
use Rattle.paper.proofs.Lists.{in_map, in_first, in_second}
use Rattle.paper.proofs.Texts.{same_is, same_self}

pub one_in : (l : List (List ℕ)) (v : List ℕ) → is_one_of l v ≡ true → v ∈ l
one_in [] v e = absurd (true≢false (sym e))
one_in (w ∷ l) v e = go (same v w) refl e (λ q. one_in l v q)
  where
    go : (c : Bool) → same v w ≡ c → (c || is_one_of l v) ≡ true → (is_one_of l v ≡ true → v ∈ l) → v ∈ (w ∷ l)
    go true p q f = (0, same_is v w p)
    go false p q f = let m = f q in (suc m.0, m.1)

pub in_one : (l : List (List ℕ)) (v : List ℕ) → v ∈ l → is_one_of l v ≡ true
in_one [] v m = absurd m.1
in_one (w ∷ l) v (zero, e) = rw (ap (same v) (sym e) ∙ same_self v)
in_one (w ∷ l) v (suc i, e) = go (same v w) (in_one l v (i, e))
  where
    go : (c : Bool) → is_one_of l v ≡ true → (c || is_one_of l v) ≡ true
    go true q = refl
    go false q = q

-- ---- a key has one row

abbrev keys_of : List Row → List (List ℕ)
keys_of rows = map (λ (r : Row). r.key) rows

abbrev distinct : List Row → Bool
distinct [] = true
distinct (r ∷ l) = not (is_one_of (keys_of l) r.key) && distinct l

later : (x : Row) (l : List Row) → not (is_one_of (keys_of l) x.key) ≡ true → (s : Row) → s ∈ l → ¬ (x.key ≡ s.key)
later x l d s m e =
    go (is_one_of (keys_of l) x.key) (in_one (keys_of l) x.key (subst (λ (k : List ℕ). k ∈ keys_of l) (sym e) (in_map (λ (r : Row). r.key) l s m))) d
  where
    go : (c : Bool) → c ≡ true → not c ≡ true → ⊥
    go true p q = true≢false (sym q)
    go false p q = true≢false (sym p)

one_row : (l : List Row) → distinct l ≡ true → (r s : Row) → r ∈ l → s ∈ l → r.key ≡ s.key → r ≡ s
one_row [] d r s m n e = absurd m.1
one_row (x ∷ l) d r s m n e = go m n (λ d m n. one_row l d r s m n e)
  where
    both : (not (is_one_of (keys_of l) x.key) ≡ true) × (distinct l ≡ true)
    both = (and-eq-true_iff (not (is_one_of (keys_of l) x.key)) (distinct l)).0 d

    key : {r s : Row} → r ≡ s → r.key ≡ s.key
    key h = ap (λ (r : Row). r.key) h

    go : r ∈ (x ∷ l) → s ∈ (x ∷ l) → (distinct l ≡ true → r ∈ l → s ∈ l → r ≡ s) → r ≡ s
    go (zero, m) (zero, n) f = m ∙ sym n
    go (zero, m) (suc j, n) f = absurd (later x l both.0 s (j, n) (sym (key m) ∙ e))
    go (suc i, m) (zero, n) f = absurd (later x l both.0 r (i, m) (sym (key n) ∙ sym e))
    go (suc i, m) (suc j, n) f = f both.1 (i, m) (j, n)

keys_distinct : (k : Kind) → distinct (vocabulary k) ≡ true
keys_distinct dna = refl
keys_distinct rna = refl
keys_distinct aa = refl

pub row_once : (k : Kind) (v : List ℕ) (r s : Row) → RowOf k v r → RowOf k v s → r ≡ s
row_once k v r s a b = one_row (vocabulary k) (keys_distinct k) r s a.member b.member (sym a.keyed ∙ b.keyed)

-- ---- the names of a row are those of section 6

abbrev names_known : List (List ℕ) → Bool
names_known [] = true
names_known (w ∷ l) = is_one_of nucleotide_names w && names_known l

abbrev rows_known : List Row → Bool
rows_known [] = true
rows_known (r ∷ l) = names_known (r.required ++ r.optional) && rows_known l

known_name : (l : List (List ℕ)) → names_known l ≡ true → (w : List ℕ) → w ∈ l → w ∈ nucleotide_names
known_name [] e w m = absurd m.1
known_name (v ∷ l) e w (zero, m) = subst (λ (x : List ℕ). x ∈ nucleotide_names) (sym m) (one_in nucleotide_names v ((and-eq-true_iff (is_one_of nucleotide_names v) (names_known l)).0 e).0)
known_name (v ∷ l) e w (suc i, m) = known_name l ((and-eq-true_iff (is_one_of nucleotide_names v) (names_known l)).0 e).1 w (i, m)

known_row : (l : List Row) → rows_known l ≡ true → (r : Row) → r ∈ l → names_known (r.required ++ r.optional) ≡ true
known_row [] e r m = absurd m.1
known_row (x ∷ l) e r (zero, m) =
    subst (λ (r : Row). names_known (r.required ++ r.optional) ≡ true) (sym m) ((and-eq-true_iff (names_known (x.required ++ x.optional)) (rows_known l)).0 e).0
known_row (x ∷ l) e r (suc i, m) = known_row l ((and-eq-true_iff (names_known (x.required ++ x.optional)) (rows_known l)).0 e).1 r (i, m)

rows_known_lem : (k : Kind) → rows_known (vocabulary k) ≡ true
rows_known_lem dna = refl
rows_known_lem rna = refl
rows_known_lem aa = refl

pub row_named : (k : Kind) (r : Row) → r ∈ vocabulary k → (w : List ℕ) → Allows r w → w ∈ nucleotide_names
row_named k r m w a = known_name (r.required ++ r.optional) (known_row (vocabulary k) (rows_known_lem k) r m) w (go a)
  where
    go : Allows r w → w ∈ (r.required ++ r.optional)
    go (inl h) = in_first r.required r.optional w h
    go (inr h) = in_second r.required r.optional w h
