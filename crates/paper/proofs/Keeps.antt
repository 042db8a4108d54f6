-- The rules as they are kept: what each asks, said of a listing that has it. A listing that keeps them all breaks none.
use Prim.Native.Nat.{ℕ, suc, ◌≤◌, ◌<◌}
use native.Mathlib.Omega.{arith}
use mathlib.Core.Path.{◌≡◌, refl, sym, ap, ◌∙◌, subst, subst₂}
use mathlib.Core.Bool.{false, true≢false}
use mathlib.Core.Logic.{inl, inr}
use mathlib.Core.List.{List}
use mathlib.Core.Option.{some}
use lib.ListN.{length}
use Rattle.paper.specs.Bytes.{bytes, all}
use Rattle.paper.specs.Lists.{◌∈◌, Count}
use Rattle.paper.specs.Tree.{Text, Qualifier, Feature, Sequence, Listing, features_of, qualifiers_of}
use Rattle.paper.specs.Values.{Number, Date, Two, is_upper, is_lower}
use Rattle.paper.specs.Locations.{Location, Locates, breaks25, has_complement}
use Rattle.paper.specs.Translation.{drop_stop, has_stop_inside}
use Rattle.paper.specs.Vocabulary.{Row, counted}
use Rattle.paper.specs.Rules.{L, Skipped, Kind, aa, IsKind, is_symbol, undefined, fewest, Keyed, Named, upper_in, source_name, organism_name, mol_type_name, OneSource, Whole, value_read, Codons, dates, offices, languages, InHeader, ResiduesBy, TextsBy, InSource, InLocation, InCoding, CountsAs, RowOf, Allows, InVocabulary, InFeature, InTable, Empty, SequenceBy, BrokenBy, header, sequence, residues, texts, table, source, feature, rule_10, rule_11, rule_12, rule_13, rule_14, rule_15, rule_16, rule_17, rule_18, rule_19, rule_20, rule_21, rule_22, rule_23, rule_24, rule_25, rule_26, rule_27, rule_28, rule_29, rule_40, rule_41, rule_42}
use Rattle.paper.proofs.Lists.{EachAt, each_at, Every, every, count_once}
use Rattle.paper.proofs.Locate.{locates_once}
use Rattle.paper.proofs.Once.{codons_once, kind_once}
use Rattle.paper.proofs.Words.{row_once}

module _ {P : Type 0} where
  -- 24 to 26
  pub record Located (s : Sequence P) (t : Text P) : Type 0 where
    pub location : Location
    pub is : Locates location t.read
    pub inside : breaks25 (L s) location ≡ false
    pub acid : IsKind aa s → has_complement location ≡ false

  located_kept : {s : Sequence P} {t : Text P} {n : ℕ} {p : P} → Located s t → ¬ InLocation s t n p
  located_kept k (rule_24 h) = h k.location k.is
  located_kept {s} k (rule_25 x w e) = true≢false (sym e ∙ ap (breaks25 (L s)) (locates_once x k.location w k.is) ∙ k.inside)
  located_kept k (rule_26 i x w e) = true≢false (sym e ∙ ap has_complement (locates_once x k.location w k.is) ∙ k.acid i)

  -- 27 and 28, of a CDS
  pub record Coded (s : Sequence P) (f : Feature P) : Type 0 where
    pub letters : List ℕ
    pub codons : Codons s f letters
    pub translated : Every (λ (q : Qualifier P). Named "translation" q → (value_read q ≡ some (drop_stop letters)) × (has_stop_inside letters ≡ false)) (qualifiers_of f)

  coded_kept : {s : Sequence P} {f : Feature P} {n : ℕ} {p : P} → (Keyed "CDS" f → Coded s f) → ¬ InCoding s f n p
  coded_kept k (rule_27 c h) = let x = (k c.keyed).codons in h x.start x.starts
  coded_kept {f = f} k (rule_28 x j q i e h) =
      let c = k j.coding.keyed in
      h (subst (λ (x : List ℕ). (value_read q ≡ some (drop_stop x)) × (has_stop_inside x ≡ false)) (codons_once c.codons j.codons)
      (every _ (qualifiers_of f) c.translated q i e))

  -- 40 to 42, of a sequence of the kind k
  pub record Worded (k : Kind) (f : Feature P) : Type 0 where
    pub row : Row
    pub is : RowOf k f.key.read row
    pub allowed : Every (λ (q : Qualifier P). Allows row (counted (upper_in k) q.name.read)) (qualifiers_of f)
    pub required : Every (λ (w : List ℕ). (q : Qualifier P) × q ∈ qualifiers_of f × CountsAs k q.name.read w) row.required

  worded_kept : {k : Kind} {s : Sequence P} {f : Feature P} {n : ℕ} {p : P} → IsKind k s → Worded k f → ¬ InVocabulary s f n p
  worded_kept {k} {s} {f} i x (rule_40 j o h) = h x.row (subst (λ (j : Kind). RowOf j f.key.read x.row) (kind_once s k j i o) x.is)
  worded_kept {k} {s} {f} i x (rule_41 j o r m q e h) =
      let same = kind_once s k j i o in
      let row = row_once k f.key.read x.row r x.is (subst (λ (j : Kind). RowOf j f.key.read r) (sym same) m) in
      h (counted (upper_in j) q.name.read) refl
      (subst₂ (λ (j : Kind) (r : Row). Allows r (counted (upper_in j) q.name.read)) same row (every _ (qualifiers_of f) x.allowed q e))
  worded_kept {k} {s} {f} i x (rule_42 j o r m w e h) =
      let same = kind_once s k j i o in
      let row = row_once k f.key.read x.row r x.is (subst (λ (j : Kind). RowOf j f.key.read r) (sym same) m) in
      let q = every _ x.row.required x.required w (subst (λ (r : Row). w ∈ r.required) (sym row) e) in
      h q.0 q.1 (subst (λ (j : Kind). CountsAs j q.0.name.read w) same q.2)

  -- 24 to 28, 40 to 42
  pub record Featured (k : Kind) (s : Sequence P) (f : Feature P) : Type 0 where
    pub located : Located s f.location
    pub coded : Keyed "CDS" f → Coded s f
    pub worded : Worded k f

  featured_kept : {k : Kind} {s : Sequence P} {f : Feature P} {n : ℕ} {p : P} → IsKind k s → Featured k s f → ¬ InFeature s f n p
  featured_kept i k (inl h) = located_kept k.located h
  featured_kept i k (inr (inl h)) = coded_kept k.coded h
  featured_kept i k (inr (inr h)) = worded_kept i k.worded h

  -- 22 and 23
  pub record Sourced (k : Kind) (s : Sequence P) (f : Feature P) : Type 0 where
    pub organism : Count (Named (organism_name (upper_in k))) (qualifiers_of f) 1
    pub mol_type : Count (Named (mol_type_name (upper_in k))) (qualifiers_of f) 1
    pub whole : Whole (L s) f.location.read

  sourced_kept : {k : Kind} {s : Sequence P} {f : Feature P} {n : ℕ} {p : P} → Sourced k s f → ¬ InSource (upper_in k) s f n p
  sourced_kept k (rule_22 h) = h (k.organism, k.mol_type)
  sourced_kept k (rule_23 h) = h k.whole

  -- 16 to 28 and 40 to 42, of a sequence of the kind k that isn't skipped
  pub record Right (k : Kind) (s : Sequence P) : Type 0 where
    pub is : IsKind k s
    pub there : ¬ Skipped s
    pub division : s.division.read ≡ bytes "PAT"
    pub symbols : all (is_symbol k) s.residues.read
    pub defined : ℕ
    pub counted : Count (λ (b : ℕ). ¬ (b ≡ undefined k)) s.residues.read defined
    pub enough : fewest k ≤ defined
    pub declared : Number (L s) s.declared.read
    pub one : OneSource (upper_in k) s
    pub sources : Every (λ (f : Feature P). Keyed (source_name (upper_in k)) f → Sourced k s f) (features_of s)
    pub features : Every (Featured k s) (features_of s)

  module _ {k : Kind} {s : Sequence P} (r : Right k s) where
    -- whichever kind it is of, it is this one
    of_kind : (R : Kind → Type 0) → R k → (j : Kind) → IsKind j s → R j
    of_kind R h j i = subst R (kind_once s k j r.is i) h

    residues_kept : {plus : P → ℕ → P} {n : ℕ} {p : P} → ¬ ResiduesBy plus s n p
    residues_kept (rule_18 j i h) = of_kind (λ (j : Kind). ¬ (all (is_symbol j) s.residues.read) → ⊥) (λ h. h r.symbols) j i h
    residues_kept (rule_19 j i n c h) =
        of_kind (λ (j : Kind). Count (λ (b : ℕ). ¬ (b ≡ undefined j)) s.residues.read n → n < fewest j → ⊥)
        (λ c h. omega (arith, h, r.enough, count_once c r.counted)) j i c h

    texts_kept : {plus : P → ℕ → P} {n : ℕ} {p : P} → ¬ TextsBy plus s n p
    texts_kept (rule_16 h) = h k r.is
    texts_kept (rule_17 h) = h r.division
    texts_kept (residues h) = residues_kept h
    texts_kept (rule_20 h) = h r.declared

    table_kept : {n : ℕ} {p : P} → ¬ InTable s n p
    table_kept (rule_21 j i h) = of_kind (λ (j : Kind). ¬ OneSource (upper_in j) s → ⊥) (λ h. h r.one) j i h
    table_kept {n} {p} (source j i f o h) =
        of_kind (λ (j : Kind). Keyed (source_name (upper_in j)) f → InSource (upper_in j) s f n p → ⊥)
        (λ e h. sourced_kept (every _ (features_of s) r.sources f o.member e) h) j i o.keyed h
    table_kept (feature f i h) = featured_kept r.is (every (Featured k s) (features_of s) r.features f i) h

  -- 15 to 29 and 40 to 42, of the k-th sequence
  pub data Kept (k : ℕ) (s : Sequence P) : Type 0 where
    judged : {d : Kind} → Number k s.number.read → Right d s → Kept k s
    skipped : Number k s.number.read → Skipped s → Empty s → Kept k s

  sequence_kept : {plus : P → ℕ → P} {k : ℕ} {s : Sequence P} {n : ℕ} {p : P} → Kept k s → ¬ SequenceBy plus k s n p
  sequence_kept (judged d r) (rule_15 h) = h d
  sequence_kept (judged d r) (texts u h) = texts_kept r h
  sequence_kept (judged d r) (table u h) = table_kept r h
  sequence_kept (judged d r) (rule_29 u h) = r.there u
  sequence_kept (skipped d u e) (rule_15 h) = h d
  sequence_kept (skipped d u e) (texts v h) = v u
  sequence_kept (skipped d u e) (table v h) = v u
  sequence_kept (skipped d u e) (rule_29 v h) = h e

  -- 10 to 29 and 40 to 42
  pub record Keeps (l : Listing P) : Type 0 where
    pub version : l.dtd_version.read ≡ bytes "1_2"
    pub dated : Every (λ (t : Text P). Date t.read) (dates l)
    pub filed : Every (λ (t : Text P). Two is_upper t.read) (offices l)
    pub spoken : Every (λ (t : Text P). Two is_lower t.read) (languages l)
    pub total : Number (length l.sequences) l.total.read
    pub sequences : EachAt (λ (i : ℕ). Kept (suc i)) l.sequences

  header_kept : {l : Listing P} {n : ℕ} {p : P} → Keeps l → ¬ InHeader l n p
  header_kept k (rule_10 h) = h k.version
  header_kept {l} k (rule_11 t i h) = h (every _ (dates l) k.dated t i)
  header_kept {l} k (rule_12 t i h) = h (every _ (offices l) k.filed t i)
  header_kept {l} k (rule_13 t i h) = h (every _ (languages l) k.spoken t i)

  -- whoever keeps them breaks none
  pub keeps_all : {plus : P → ℕ → P} {l : Listing P} {n : ℕ} {p : P} → Keeps l → ¬ BrokenBy plus l n p
  keeps_all k (header h) = header_kept k h
  keeps_all k (rule_14 h) = h k.total
  keeps_all {plus} {l} {n} {p} k (sequence m s i h) =
      sequence_kept (each_at (λ (i : ℕ). Kept (suc i)) l.sequences k.sequences i.0 s i.2) (subst (λ (m : ℕ). SequenceBy plus m s n p) i.1 h)
