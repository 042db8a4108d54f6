-- "A value is judged as read": letters are written as they are read, so that a translation may be compared with the raw part.
use Prim.Native.Nat.{ℕ, zero, suc, ◌+◌, ◌*◌}
use Prim.Native.Char.{code}
use mathlib.Core.Path.{◌≡◌, refl, sym, ap, ◌∙◌}
use mathlib.Core.Bool.{Bool, true, false, cond}
use mathlib.Core.List.{List, [], ◌∷◌, ◌++◌, map}
use lib.ListN.{get_or}
use lib.Dec.{eqb}
use Rattle.paper.specs.Bytes.{bytes, spell, raw}
use Rattle.paper.specs.Lists.{gather}
use Rattle.paper.specs.Translation.{Code, bases_of, base_index, plain_letter, plain_letters, all_among, shared, give_exactly, most_restrictive, codon_letter, letters, drop_stop}
use Rattle.paper.proofs.Texts.{raw_once}
use Rattle.protein_code.specs.Tables.{SelfSpelt}
use Rattle.protein_compare.specs.Comparing.{RightValue}

-- it is written as it is read
pub record Plain (b : ℕ) : Type 0 where
  pub is : spell b ≡ b ∷ []

abbrev Plains : List ℕ → Type 0
Plains [] = Unit {0}
Plains (b ∷ l) = Plain b × Plains l

plains_raw : (l : List ℕ) → Plains l → raw l ≡ l
plains_raw [] h = refl
plains_raw (b ∷ l) h = ap (λ (x : List ℕ). x ++ raw l) h.0.is ∙ ap (λ (x : List ℕ). b ∷ x) (plains_raw l h.1)

plains_append : (a b : List ℕ) → Plains a → Plains b → Plains (a ++ b)
plains_append [] b h k = k
plains_append (x ∷ a) b h k = (h.0, plains_append a b h.1 k)

plains_map : (f : ℕ → ℕ) → ((a : ℕ) → Plain (f a)) → (l : List ℕ) → Plains (map f l)
plains_map f h [] = tt
plains_map f h (a ∷ l) = (h a, plains_map f h l)

plains_gather : (f : ℕ → List ℕ) → ((a : ℕ) → Plains (f a)) → (l : List ℕ) → Plains (gather f l)
plains_gather f h [] = tt
plains_gather f h (a ∷ l) = plains_append (f a) (gather f l) (h a) (plains_gather f h l)

-- ---- the code's letters

first_of : List (List ℕ) → List ℕ
first_of [] = []
first_of (a ∷ l) = a

others_of : List (List ℕ) → List (List ℕ)
others_of [] = []
others_of (a ∷ l) = l

plains_of : (l : List ℕ) → map spell l ≡ map (λ (b : ℕ). b ∷ []) l → Plains l
unfolding first_of others_of
plains_of [] e = tt
plains_of (b ∷ l) e = (record { is = ap first_of e }, plains_of l (ap others_of e))

plain_at : (l : List ℕ) → Plains l → (i : ℕ) → Plain (get_or l i 0)
plain_at [] h i = record { is = refl }
plain_at (b ∷ l) h zero = h.0
plain_at (b ∷ l) h (suc i) = plain_at l h.1 i

plain_either : (b : Bool) (x y : ℕ) → Plain x → Plain y → Plain (cond b x y)
plain_either true x y h k = h
plain_either false x y h k = k

plain_shared : (l : List ℕ) → Plains l → Plain (shared l)
plain_shared [] h = record { is = refl }
plain_shared (x ∷ l) h = plain_either (all_among (x ∷ []) l) x (code "X") h.0 (record { is = refl })

plain_restrictive : (l : List ℕ) → Plains l → Plain (most_restrictive l)
plain_restrictive l h =
    plain_either (give_exactly (bytes "ND") l) (code "B") _ (record { is = refl })
    (plain_either (give_exactly (bytes "QE") l) (code "Z") _ (record { is = refl })
    (plain_either (give_exactly (bytes "IL") l) (code "J") (shared l) (record { is = refl }) (plain_shared l h)))

plains_drop : (l : List ℕ) → Plains l → Plains (drop_stop l)
plains_drop [] h = tt
plains_drop (x ∷ []) h = go (eqb x (code "*"))
  where
    go : (b : Bool) → Plains (cond b [] (x ∷ []))
    go true = tt
    go false = h
plains_drop (x ∷ y ∷ l) h = (h.0, plains_drop (y ∷ l) h.1)

-- ---- a translation

module _ (gc : Code) (spelt : SelfSpelt gc) where
  plain_letter_lem : (a b c : ℕ) → Plain (plain_letter gc a b c)
  plain_letter_lem a b c = plain_at gc (plains_of gc spelt) (16 * base_index a + 4 * base_index b + base_index c)

  plain_codon : (a b c : ℕ) → Plain (codon_letter gc a b c)
  plain_codon a b c =
      let third : ℕ → ℕ → List ℕ = λ x y. map (plain_letter gc x y) (bases_of c) in
      let plain-third : (x y : ℕ) → Plains (third x y) = λ x y. plains_map (plain_letter gc x y) (plain_letter_lem x y) (bases_of c) in
      plain_restrictive (plain_letters gc (bases_of a) (bases_of b) (bases_of c))
      (plains_gather (λ (x : ℕ). gather (third x) (bases_of b)) (λ x. plains_gather (third x) (plain-third x) (bases_of b)) (bases_of a))

  plains_letters : (w : List ℕ) → Plains (letters gc w)
  plains_letters [] = tt
  plains_letters (a ∷ []) = tt
  plains_letters (a ∷ b ∷ []) = tt
  plains_letters (a ∷ b ∷ c ∷ w) = (plain_codon a b c, plains_letters w)

  translation_raw : (w : List ℕ) → raw (drop_stop (letters gc w)) ≡ drop_stop (letters gc w)
  translation_raw w = plains_raw (drop_stop (letters gc w)) (plains_drop (letters gc w) (plains_letters w))

  module _ (w value v : List ℕ) (e : value ≡ raw v) where
    pub as_written : RightValue (letters gc w) v → RightValue (letters gc w) value
    as_written h = record { clear = h.clear; same = e ∙ ap raw h.same ∙ translation_raw w }

    pub as_read : RightValue (letters gc w) value → RightValue (letters gc w) v
    as_read h = record { clear = h.clear; same = raw_once v (drop_stop (letters gc w)) (sym e ∙ h.same ∙ sym (translation_raw w)) }
