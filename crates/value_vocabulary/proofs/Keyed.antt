-- From a place in a dictionary to the text as read, and from the place of a key to its row.
use Prim.Native.Nat.{ℕ, zero, suc, ◌+◌, ◌*◌, ◌<◌}
use native.Mathlib.Decide.{ℕ_discrete}
use native.Mathlib.Omega.{arith}
use mathlib.Core.Path.{◌≡◌, refl, sym, ap, ◌∙◌, subst}
use mathlib.Core.Bool.{Bool, true, false, true≢false, cond}
use mathlib.Core.List.{List, [], ◌∷◌, ◌++◌, map}
use lib.ListN.{length, get_or, drop, length-map, get_or-map}
use lib.Dec.{ltb}
use borrow.Author.Tests.{ltb-true, ltb-false}
use Rattle.std.specs.Prelude.{Some, None}
use Rattle.paper.specs.Bytes.{bytes, raw}
use Rattle.paper.specs.Lists.{◌∈◌}
use Rattle.paper.specs.Vocabulary.{Row, nucleotide_names, older, is_one_of, lower, counted}
use Rattle.paper.specs.Rules.{Kind, dna, rna, aa, kind_name, upper_in, vocabulary, RowOf}
use Rattle.paper.proofs.Lists.{in_map, in_first, in_second}
use Rattle.paper.proofs.Once.{name_once}
use Rattle.paper.proofs.Texts.{raw_once}
use Rattle.paper.proofs.Words.{one_in, in_one, row_named}
use Rattle.value_words.specs.Reading.{is_acid}
use Rattle.value_words.specs.declared.Molecule.{Molecule}
use Rattle.value_words.specs.declared.Molecule.TheVariants as kind
use Rattle.value_dictionary.specs.Texts.{pair_of, PlaceOf, FindsText}
use Rattle.value_vocabulary.specs.Tables.{RowIn, name_texts, standing_of, crumb_at, HasRow, key_texts, RowFor, Keys, VocabularyTable}
use Rattle.value_vocabulary.specs.Lookups.{RowStands, RowIs, FindsRow}
use Rattle.value_vocabulary.proofs.InRow.{standing_some, row_few}

-- ---- places

-- the place of a text as written is that of the text as read
pub place_read : (l : List (List ℕ)) (v : List ℕ) (r : ℕ) → PlaceOf (map raw l) (raw v) r → PlaceOf l v r
place_read l v r p =
    record {
      is = λ h. raw_once v (get_or l r []) (p.is (subst (λ (n : ℕ). r < n) (sym (length-map l raw)) h) ∙ get_or-map raw l r []);
      found = λ k h e. p.found k (subst (λ (n : ℕ). k < n) (sym (length-map l raw)) h) (ap raw e ∙ sym (get_or-map raw l k []));
    }

-- a number tells the name that has it, and no other
module _ {v : List ℕ} {j : ℕ} (p : PlaceOf name_texts v j) (n : ℕ) (h : n < length name_texts) where
  pub number_is : j ≡ n → v ≡ get_or name_texts n []
  number_is e = p.is (omega (arith, e, h)) ∙ ap (λ (i : ℕ). get_or name_texts i []) e

  pub number_not : ¬ (j ≡ n) → ¬ (v ≡ get_or name_texts n [])
  number_not f e = f (p.found n h e)

-- an element by its place
at_place : (l : List (List ℕ)) (v : List ℕ) (m : v ∈ l) → (m.0 < length l) × (v ≡ get_or l m.0 [])
at_place [] v m = absurd m.1
at_place (x ∷ l) v (zero, e) = (omega arith, e)
at_place (x ∷ l) v (suc i, e) = let y = at_place l v (i, e) in (omega (arith, y.0), y.1)

in_place : (l : List (List ℕ)) (k : ℕ) → k < length l → get_or l k [] ∈ l
in_place [] k h = absurd (omega (arith, h))
in_place (x ∷ l) zero h = (0, refl)
in_place (x ∷ l) (suc k) h = let m = in_place l k (omega (arith, h)) in (suc m.0, m.1)

-- a text that counts as one of these is one of them, or an older name
counted_in : (upper : Bool) (l : List (List ℕ)) (v : List ℕ) → counted upper v ∈ l → v ∈ (l ++ cond upper older [])
counted_in false l v m = in_first l [] v m
counted_in true l v m = go (is_one_of older v) refl m
  where
    go : (b : Bool) → is_one_of older v ≡ b → cond b (map lower v) v ∈ l → v ∈ (l ++ older)
    go true p m = in_second l older v (one_in older v p)
    go false p m = in_first l older v m

-- ---- the row of a key, by its number among the keys

module _ {factor : ℕ} (rows : ℕ) {t w : List ℕ} where
  -- every text's number is below 255
  pub no_row : FindsText factor 127 t w None → RowIn factor rows t w 0
  no_row f =
      record {
        is = λ l d j h e. absurd (omega (arith, d.few, (f.looks l d).found j h e));
        none = λ l d n. refl;
      }

  pub has_row : {k r : ℕ} → FindsText factor 127 t w (Some k) → r ≡ pair_of t (rows + 2 * k) → RowIn factor rows t w r
  has_row {k} f is =
      record {
        is = λ l d j h e. is ∙ ap (λ (n : ℕ). pair_of t (rows + 2 * n)) ((f.looks l d).found j h e);
        none = λ l d n. absurd (n k (f.below l d k refl) ((f.looks l d).is (f.below l d k refl)));
      }

-- ---- the row at a place

module _ (k : Kind) where
  -- a name that no number stands for isn't allowed
  other_name : (r : Row) → r ∈ vocabulary k → (v : List ℕ) (j : ℕ) → PlaceOf name_texts v j → ¬ (j < length name_texts) → standing_of r (counted (upper_in k) v) ≡ 0
  other_name r m v j p n = go (ℕ_discrete (standing_of r (counted (upper_in k) v)) 0)
    where
      named : (upper : Bool) → counted upper v ∈ nucleotide_names → v ∈ name_texts
      named false h = in_first nucleotide_names older v h
      named true h = counted_in true nucleotide_names v h

      go : Dec (standing_of r (counted (upper_in k) v) ≡ 0) → standing_of r (counted (upper_in k) v) ≡ 0
      go (yes e) = e
      go (no f) =
          let i = named (upper_in k) (row_named k r m (counted (upper_in k) v) (standing_some r (counted (upper_in k) v) f)) in
          let at = at_place name_texts v i in
          absurd (n (omega (arith, p.found i.0 at.0 at.1, at.0)))

  row_stands : {t : List ℕ} {row : ℕ} (r : Row) → r ∈ vocabulary k → HasRow (upper_in k) t row r → RowStands k t row r
  row_stands {t} {row} r m h =
      record {
        few = row_few k r m;
        needs = h.needs;
        stands = λ v j p. go v j p (ltb j 85) refl;
      }
    where
      near : (b : Bool) → ltb row 65536 ≡ b → (x : ℕ) → cond b x 0 ≡ x
      near true e x = refl
      near false e x = absurd (omega (arith, ltb-false row 65536 e, h.near))

      go : (v : List ℕ) (j : ℕ) → PlaceOf name_texts v j → (b : Bool) → ltb j 85 ≡ b
          → cond b (cond (ltb row 65536) (crumb_at t row j) 0) 0 ≡ standing_of r (counted (upper_in k) v)
      go v j p true e =
          let i = ltb-true j 85 e in
          near (ltb row 65536) refl (crumb_at t row j) ∙ h.stands j i ∙ ap (λ (v : List ℕ). standing_of r (counted (upper_in k) v)) (sym (p.is i))
      go v j p false e = sym (other_name r m v j p (λ i. omega (arith, ltb-false j 85 e, i)))

  row_read : {t v : List ℕ} {row : ℕ} → RowFor (upper_in k) (vocabulary k) t v row → RowIs k t v row
  row_read f =
      record {
        known = λ n. let x = f.known n in (x.0, record { member = x.1; keyed = x.2 }, row_stands x.0 x.1 x.3);
        unknown = λ z r o. f.unknown z r o.member o.keyed;
      }

  module _ (factor places : ℕ) {part t : List ℕ} (keys : Keys (upper_in k) (vocabulary k) factor places part t) {w : List ℕ} {row : ℕ} (found : RowIn factor places part w row)
      (v : List ℕ) (e : w ≡ raw v) where
    abbrev texts : List (List ℕ)
    texts = key_texts (upper_in k) (vocabulary k)

    unknown_key : is_one_of texts v ≡ false → (r : Row) → ¬ RowOf k v r
    unknown_key p r o =
        let m = subst (λ (x : List ℕ). x ∈ map (λ (r : Row). r.key) (vocabulary k)) (sym o.keyed) (in_map (λ (r : Row). r.key) (vocabulary k) r o.member) in
        true≢false (sym (in_one texts v (counted_in (upper_in k) (map (λ (r : Row). r.key) (vocabulary k)) v m)) ∙ p)

    none_of : is_one_of texts v ≡ false → (i : ℕ) → i < length (map raw texts) → ¬ (w ≡ get_or (map raw texts) i [])
    none_of p i h d =
        let j = subst (λ (n : ℕ). i < n) (length-map texts raw) h in
        let same = raw_once v (get_or texts i []) (sym e ∙ d ∙ get_or-map raw texts i []) in
        true≢false (sym (in_one texts v (subst (λ (x : List ℕ). x ∈ texts) (sym same) (in_place texts i j))) ∙ p)

    pub row_is : RowIs k t v row
    row_is = go (is_one_of texts v) refl
      where
        go : (b : Bool) → is_one_of texts v ≡ b → RowIs k t v row
        go true p =
            let m = one_in texts v p in
            let at = at_place texts v m in
            let i = m.0 in
            let written : w ≡ get_or (map raw texts) i [] = e ∙ ap raw at.1 ∙ sym (get_or-map raw texts i []) in
            let here = found.is (map raw texts) keys.texts i (subst (λ (n : ℕ). i < n) (sym (length-map texts raw)) at.0) written in
            row_read (subst (λ (x : ℕ). RowFor (upper_in k) (vocabulary k) t v x) (sym here)
            (subst (λ (x : List ℕ). RowFor (upper_in k) (vocabulary k) t x (pair_of part (places + 2 * i))) (sym at.1) (keys.placed i at.0)))
        go false p =
            let z = found.none (map raw texts) keys.texts (none_of p) in
            record { known = λ n. absurd (n z); unknown = λ h. unknown_key p }

-- ---- of the kind that the code names

row_of_kind : (j : Kind) {w t : List ℕ} {row : ℕ} → ((v : List ℕ) → w ≡ raw v → RowIs j t v row) → (k : Kind) → bytes (kind_name k) ≡ bytes (kind_name j) → (v : List ℕ) → w ≡ raw v → RowIs k t v row
row_of_kind j {t = t} {row} f k e v h = subst (λ (k : Kind). RowIs k t v row) (sym (name_once k j e)) (f v h)

module _ {t w : List ℕ} (table : VocabularyTable t) {row : ℕ} where
  pub finds_acid : (c : Molecule) → is_acid c ≡ true → RowIn 4266913 499 (drop 1987 t) w row → FindsRow t w c row
  finds_acid kind.Dna e f = absurd (true≢false (sym e))
  finds_acid kind.Rna e f = absurd (true≢false (sym e))
  finds_acid kind.Aa e f = record { says = row_of_kind aa (row_is aa 4266913 499 table.acids f) }
  finds_acid kind.Other e f = absurd (true≢false (sym e))

  pub finds_base : (c : Molecule) → is_acid c ≡ false → RowIn 4094411 655 (drop 1234 t) w row → FindsRow t w c row
  finds_base kind.Dna e f = record { says = row_of_kind dna (row_is dna 4094411 655 table.nucleotides f) }
  finds_base kind.Rna e f = record { says = row_of_kind rna (row_is rna 4094411 655 table.nucleotides f) }
  finds_base kind.Aa e f = absurd (true≢false e)
  -- no kind is the other one
  finds_base kind.Other e f = record { says = λ k n v h. absurd (n k refl) }
