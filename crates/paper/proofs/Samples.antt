-- The starred cases of document 01's sample sheet, codons of request 4 of 02 and symbols of its request 7: one list, and a single proof
-- over it.
use Prim.Native.Nat.{ℕ}
use Prim.Native.String.{String}
use native.Mathlib.Omega.{arith}
use mathlib.Core.Path.{◌≡◌, refl, sym, ap, ◌∙◌}
use mathlib.Core.Bool.{Bool, true, false, ◌&&◌, not, and-eq-true_iff}
use mathlib.Core.List.{List, [], ◌∷◌}
use mathlib.Core.Option.{Option, none, some}
use lib.ListN.{length}
use lib.Dec.{eqb}
use borrow.Author.Tests.{not-true, eqb-true}
use Rattle.paper.specs.Bytes.{bytes, same}
use Rattle.paper.specs.Locations.{Location, Locates, spans, symbol_count, breaks25}
use Rattle.paper.specs.Translation.{code1, coding_text, codons_from, letters, drop_stop, has_stop_inside}
use Rattle.paper.proofs.Lists.{Every}
use Rattle.paper.proofs.Texts.{same_is}
use Rattle.paper.proofs.Locate.{locate_sound, locate_complete}
use Rattle.paper.proofs.Locate.Model.{locate}

pub data Sample : Type 0 where
  -- a location on residues, with codon_start: its translation; or a stop stands inside
  gives : (residues location : String) (start : ℕ) (protein : String) → Sample
  stops : (residues location : String) (start : ℕ) → Sample
  -- one codon, and its letter
  codon : (residues letter : String) → Sample
  -- a location on a sequence of 12 residues: it fits; it breaks 25; it breaks 24
  fits : (location : String) → Sample
  breaks_25 : (location : String) → Sample
  breaks_24 : (location : String) → Sample
  -- a location, and how many symbols it has
  symbols : (location : String) (count : ℕ) → Sample

-- "Sequence `atgaaatgctaa`, reversed strand `ttagcatttcat`, L = 12." "So `ray` is B, `sar` is Z, `mtt` is J, and `tgr` stays X."
pub samples : List Sample
samples =
    gives "atgaaatgctaa" "1..12" 1 "MKC"
    ∷ gives "ttagcatttcat" "complement(1..12)" 1 "MKC"
    ∷ gives "ttagcatttcat" "join(complement(7..12),complement(1..6))" 1 "MKC"
    ∷ stops "ttagcatttcat" "join(complement(1..6),complement(7..12))" 1
    ∷ gives "atgaaatgctaa" "1..12" 3 "EML"
    ∷ stops "atgaaatgctaa" "1..12" 2
    ∷ codon "ytr" "L"
    ∷ codon "mgr" "R"
    ∷ codon "tra" "*"
    ∷ codon "tgr" "X"
    ∷ codon "ray" "B"
    ∷ codon "sar" "Z"
    ∷ codon "mtt" "J"
    ∷ codon "wta" "J"
    ∷ codon "hta" "J"
    ∷ codon "mth" "J"
    ∷ codon "mtr" "X"
    ∷ codon "vay" "X"
    ∷ codon "var" "X"
    ∷ codon "aau" "X"
    ∷ fits "12"
    ∷ breaks_25 "13"
    ∷ breaks_24 "0"
    ∷ symbols "7" 1
    ∷ symbols "<1..>12" 5
    ∷ symbols "join(1,2)" 6
    ∷ symbols "complement(4^5)" 6
    ∷ symbols "complement(order(>1,2..12,<3))" 15
    ∷ []

-- ---- what a sample says

-- the letters of a location's codons
abbrev letters_of : String → ℕ → Location → List ℕ
letters_of residues start t = codons_from code1 start (coding_text (bytes residues) (spans t))

-- a location is written so that keeps rule 25 and has the property
abbrev Located : String → ℕ → (Location → Type 0) → Type 0
Located location n C = (t : Location) × Locates t (bytes location) × (breaks25 n t ≡ false) × C t

abbrev pub Holds : Sample → Type 0
Holds (gives r l n p) =
    Located l (length (bytes r)) (λ (t : Location). (has_stop_inside (letters_of r n t) ≡ false) × (drop_stop (letters_of r n t) ≡ bytes p))
Holds (stops r l n) = Located l (length (bytes r)) (λ (t : Location). has_stop_inside (letters_of r n t) ≡ true)
Holds (codon r x) = letters code1 (bytes r) ≡ bytes x
Holds (fits l) = Located l 12 (λ t. Unit {0})
Holds (breaks_25 l) = (t : Location) × Locates t (bytes l) × (breaks25 12 t ≡ true)
Holds (breaks_24 l) = (t : Location) → ¬ Locates t (bytes l)
Holds (symbols l n) = (t : Location) × Locates t (bytes l) × (symbol_count t ≡ n)

-- ---- the proof: a test that is computed over the list, and holds only of samples that hold

abbrev found : Option Location → (Location → Bool) → Bool
found none f = false
found (some t) f = f t

abbrev test : Sample → Bool
test (gives r l n p) =
    found (locate (bytes l))
    (λ t. not (breaks25 (length (bytes r)) t) && (not (has_stop_inside (letters_of r n t)) && same (drop_stop (letters_of r n t)) (bytes p)))
test (stops r l n) = found (locate (bytes l)) (λ t. not (breaks25 (length (bytes r)) t) && has_stop_inside (letters_of r n t))
test (codon r x) = same (letters code1 (bytes r)) (bytes x)
test (fits l) = found (locate (bytes l)) (λ t. not (breaks25 12 t))
test (breaks_25 l) = found (locate (bytes l)) (λ t. breaks25 12 t)
test (breaks_24 l) = not (found (locate (bytes l)) (λ t. true))
test (symbols l n) = found (locate (bytes l)) (λ t. eqb (symbol_count t) n)

found_is : (w : List ℕ) (f : Location → Bool) → found (locate w) f ≡ true → (t : Location) × Locates t w × (f t ≡ true)
found_is w f = go (locate w) refl
  where
    go : (o : Option Location) → locate w ≡ o → found o f ≡ true → (t : Location) × Locates t w × (f t ≡ true)
    go none q e = absurd (let z : ◌≡◌ {A = ℕ} 0 1 = cc in omega arith)
    go (some t) q e = (t, locate_sound w t q, e)

test_holds : (x : Sample) → test x ≡ true → Holds x
test_holds (gives r l n p) e =
    let k = found_is (bytes l) _ e in
    let t = k.0 in
    let a = (and-eq-true_iff (not (breaks25 (length (bytes r)) t)) _).0 k.2 in
    let b = (and-eq-true_iff (not (has_stop_inside (letters_of r n t))) _).0 a.1 in
    (t, k.1, not-true _ a.0, (not-true _ b.0, same_is _ _ b.1))
test_holds (stops r l n) e =
    let k = found_is (bytes l) _ e in
    let a = (and-eq-true_iff (not (breaks25 (length (bytes r)) k.0)) _).0 k.2 in
    (k.0, k.1, not-true _ a.0, a.1)
test_holds (codon r x) e = same_is _ _ e
test_holds (fits l) e = let k = found_is (bytes l) _ e in (k.0, k.1, not-true _ k.2, tt)
test_holds (breaks_25 l) e = found_is (bytes l) _ e
test_holds (breaks_24 l) e =
    λ t h.
    let q : found (locate (bytes l)) (λ t. true) ≡ false = not-true _ e in
    let z : ◌≡◌ {A = Bool} true false = ap (λ (o : Option Location). found o (λ t. true)) (sym (locate_complete (bytes l) t h)) ∙ q in
    let y : ◌≡◌ {A = ℕ} 0 1 = cc in omega arith
test_holds (symbols l n) e = let k = found_is (bytes l) _ e in (k.0, k.1, eqb-true (symbol_count k.0) n k.2)

abbrev every : List Sample → Bool
every [] = true
every (x ∷ l) = test x && every l

all_hold : (l : List Sample) → every l ≡ true → Every Holds l
all_hold [] e = tt
all_hold (x ∷ l) e = let k = (and-eq-true_iff (test x) (every l)).0 e in (test_holds x k.0, all_hold l k.1)

-- every starred case holds
pub starred : Every Holds samples
unfolding samples
starred = all_hold samples refl
