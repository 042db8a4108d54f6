-- What may be asked, and what each call answers: for any bytes, any numbers asked and any lent output, refusals in their order.
use Rattle.std.specs.Prelude.{ℕ, ◌≤◌, ◌<◌, ◌≡◌, Bool, true, false, Result, Ok, Err, List, [], ◌∷◌, ◌++◌, map, length, take, drop}
use Rattle.std.proofs.Math.Option.{Option, none, some}
use Rattle.paper.specs.Bytes.{bytes, raw}
use Rattle.paper.specs.Lists.{Numbered, Count, gather}
use Rattle.paper.specs.Tree.{Text, Qualifier, Feature, Sequence, Listing, features_of, qualifiers_of}
use Rattle.paper.specs.Layout.{LaidOut}
use Rattle.paper.specs.Values.{decimal}
use Rattle.paper.specs.Locations.{Location, Locates, Span, spans, operator_number}
use Rattle.paper.specs.Translation.{drop_stop, has_stop_inside}
use Rattle.paper.specs.Rules.{Skipped, Kind, dna, rna, aa, IsKind, Coding, Unjudged, Judged, Broken, First}
use Rattle.paper.specs.declared.Figures.{Figures}
use Rattle.paper.specs.declared.Refused.{Refused}

-- "16,777,216 bytes is the longest listing."
abbrev pub limit : ℕ
limit = 16777216

-- an answer, or the number of a refusal and its place
pub data Outcome (A : Type 0) : Type 0 where
  refuse : (number place : ℕ) → Outcome A
  give : A → Outcome A

-- ---- the check

-- some layout text, of whatever length, begins with u
abbrev pub Begins : List ℕ → Type 0
Begins u = (l : Listing ℕ) × (v : List ℕ) × LaidOut l (u ++ v)

-- rule 2: w is not of the layout, and p is the "length of the longest beginning of the input that also begins some layout text,
-- of whatever length"
pub record Strays (w : List ℕ) (p : ℕ) : Type 0 where
  pub stray : (l : Listing ℕ) → ¬ LaidOut l w
  pub inside : p ≤ length w
  pub begins : Begins (take p w)
  pub longest : (j : ℕ) → j ≤ length w → Begins (take j w) → j ≤ p

-- "Rule 1 comes first, then 2; then the smallest place, and at one place the smallest number."
pub data Checked (w : List ℕ) : Outcome (Listing ℕ) → Type 0 where
  too_long : limit < length w → Checked w (refuse 1 0)
  strays : {p : ℕ} → length w ≤ limit → Strays w p → Checked w (refuse 2 p)
  breaks : {n p : ℕ} (l : Listing ℕ) → length w ≤ limit → LaidOut l w → First (Broken l) n p → Checked w (refuse n p)
  accepted : {l : Listing ℕ} → length w ≤ limit → LaidOut l w → ((n p : ℕ) → ¬ Broken l n p) → Checked w (give l)

-- every feature of a listing, with its sequence
abbrev pub every_feature : {P : Type 0} → Listing P → List (Sequence P × Feature P)
every_feature {P} l =
    gather (λ (s : Sequence P). map {A = Feature P} {B = Sequence P × Feature P} (λ f. (s, f)) (features_of s)) l.sequences

abbrev pub JudgedCds : {P : Type 0} → Sequence P × Feature P → Type 0
JudgedCds x = Coding x.0 x.1 × (¬ Unjudged x.1)

abbrev pub UnjudgedCds : {P : Type 0} → Sequence P × Feature P → Type 0
UnjudgedCds x = Coding x.0 x.1 × Unjudged x.1

-- "total, skipped, features, judged CDSs, unjudged CDSs"
pub record Counts {P : Type 0} (l : Listing P) (total skipped features judged unjudged : ℕ) : Type 0 where
  pub totals : total ≡ length l.sequences
  pub skips : Count Skipped l.sequences skipped
  pub featured : features ≡ length (every_feature l)
  pub judges : Count JudgedCds (every_feature l) judged
  pub unjudges : Count UnjudgedCds (every_feature l) unjudged

-- "Check: accepted, with total, skipped, features, judged CDSs, unjudged CDSs; or rule and place."
abbrev pub Verdict : Type 0
Verdict = Result Figures Refused

abbrev pub CheckSays : List ℕ → Verdict → Type 0
CheckSays w (Ok a) = (l : Listing ℕ) × Checked w (give l) × Counts l a.total a.skipped a.features a.judged a.unjudged
CheckSays w (Err r) = Checked w (refuse r.rule r.place)

-- the same in numbers: "a definition gives this paper's number and values for each of its cases"; a refusal has "counts .. 0"
pub record CheckNumbers : Type 0 where
  pub number : ℕ
  pub place : ℕ
  pub total : ℕ
  pub skipped : ℕ
  pub features : ℕ
  pub judged : ℕ
  pub unjudged : ℕ

abbrev pub numbers_of : Verdict → CheckNumbers
numbers_of (Ok a) = record { number = 0; place = 0; total = a.total; skipped = a.skipped; features = a.features; judged = a.judged; unjudged = a.unjudged }
numbers_of (Err r) = record { number = r.rule; place = r.place; total = 0; skipped = 0; features = 0; judged = 0; unjudged = 0 }

-- ---- "Refusals, first that applies: the check's own; 30 no such sequence; 31 skipped; 32 no such feature; 33 no such qualifier; .."

pub data FindsSequence (w : List ℕ) (k : ℕ) : Outcome (Sequence ℕ) → Type 0 where
  own : {n p : ℕ} → Checked w (refuse n p) → FindsSequence w k (refuse n p)
  no_sequence : {l : Listing ℕ} → Checked w (give l) → ((s : Sequence ℕ) → ¬ Numbered l.sequences k s) → FindsSequence w k (refuse 30 0)
  skipped : {l : Listing ℕ} (s : Sequence ℕ) → Checked w (give l) → Numbered l.sequences k s → Skipped s → FindsSequence w k (refuse 31 0)
  sequence : {l : Listing ℕ} {s : Sequence ℕ} → Checked w (give l) → Numbered l.sequences k s → ¬ Skipped s → FindsSequence w k (give s)

pub data FindsFeature (w : List ℕ) (k j : ℕ) : Outcome (Sequence ℕ × Feature ℕ) → Type 0 where
  earlier : {n p : ℕ} → FindsSequence w k (refuse n p) → FindsFeature w k j (refuse n p)
  no_feature : {s : Sequence ℕ} → FindsSequence w k (give s) → ((f : Feature ℕ) → ¬ Numbered (features_of s) j f) → FindsFeature w k j (refuse 32 0)
  feature : {s : Sequence ℕ} {f : Feature ℕ} → FindsSequence w k (give s) → Numbered (features_of s) j f → FindsFeature w k j (give (s, f))

pub data FindsQualifier (w : List ℕ) (k j i : ℕ) : Outcome (Qualifier ℕ) → Type 0 where
  earlier : {n p : ℕ} → FindsFeature w k j (refuse n p) → FindsQualifier w k j i (refuse n p)
  no_qualifier : {s : Sequence ℕ} {f : Feature ℕ} → FindsFeature w k j (give (s, f))
      → ((q : Qualifier ℕ) → ¬ Numbered (qualifiers_of f) i q) → FindsQualifier w k j i (refuse 33 0)
  qualifier : {s : Sequence ℕ} {f : Feature ℕ} {q : Qualifier ℕ} → FindsFeature w k j (give (s, f))
      → Numbered (qualifiers_of f) i q → FindsQualifier w k j i (give q)

-- the feature, and the location that its location text is
pub data FindsLocation (w : List ℕ) (k j : ℕ) : Outcome (Feature ℕ × Location) → Type 0 where
  earlier : {n p : ℕ} → FindsFeature w k j (refuse n p) → FindsLocation w k j (refuse n p)
  location : {s : Sequence ℕ} {f : Feature ℕ} {t : Location} → FindsFeature w k j (give (s, f))
      → Locates t f.location.read → FindsLocation w k j (give (f, t))

-- ".. 35 not a CDS of DNA or RNA; 36 unjudged; 37 stop inside; ..": the translation of the feature f of s
pub data Translates {P : Type 0} (s : Sequence P) (f : Feature P) : Outcome (List ℕ) → Type 0 where
  no_cds : ¬ Coding s f → Translates s f (refuse 35 0)
  unjudged : Coding s f → Unjudged f → Translates s f (refuse 36 0)
  stop_inside : {x : List ℕ} → Judged s f x → has_stop_inside x ≡ true → Translates s f (refuse 37 0)
  translation : {x : List ℕ} → Judged s f x → has_stop_inside x ≡ false → Translates s f (give (drop_stop x))

pub data FindsTranslation (w : List ℕ) (k j : ℕ) : Outcome (List ℕ) → Type 0 where
  earlier : {n p : ℕ} → FindsFeature w k j (refuse n p) → FindsTranslation w k j (refuse n p)
  feature : {s : Sequence ℕ} {f : Feature ℕ} {x : Outcome (List ℕ)} → FindsFeature w k j (give (s, f)) → Translates s f x → FindsTranslation w k j x

-- "All translations of a sequence, each starting where the one before ended, in document order, each closed by byte 10; an unjudged
-- CDS or one with a stop inside gives `-`. In AA: length 0.": there no feature is a CDS of DNA or RNA
pub data Lines {P : Type 0} (s : Sequence P) : List (Feature P) → List ℕ → Type 0 where
  end : Lines s [] []
  no_cds : {f : Feature P} {l : List (Feature P)} {x : List ℕ} → Translates s f (refuse 35 0) → Lines s l x → Lines s (f ∷ l) x
  unjudged : {f : Feature P} {l : List (Feature P)} {x : List ℕ} → Translates s f (refuse 36 0) → Lines s l x → Lines s (f ∷ l) (bytes "-\n" ++ x)
  stop_inside : {f : Feature P} {l : List (Feature P)} {x : List ℕ} → Translates s f (refuse 37 0) → Lines s l x → Lines s (f ∷ l) (bytes "-\n" ++ x)
  translation : {f : Feature P} {l : List (Feature P)} {x y : List ℕ} → Translates s f (give y) → Lines s l x → Lines s (f ∷ l) (y ++ (bytes "\n" ++ x))

pub data FindsTranslations (w : List ℕ) (k : ℕ) : Outcome (List ℕ) → Type 0 where
  earlier : {n p : ℕ} → FindsSequence w k (refuse n p) → FindsTranslations w k (refuse n p)
  translations : {s : Sequence ℕ} {x : List ℕ} → FindsSequence w k (give s) → Lines s (features_of s) x → FindsTranslations w k (give x)

-- ---- lent output

-- "Success writes the answer at the front and leaves the rest."
abbrev pub front : List ℕ → List ℕ → List ℕ
front x out = x ++ drop (length x) out

-- the number of a refusal and its place, the length of what is written, and the output afterwards: ".. 34 lent output shorter than
-- the answer."; a refusal "changes no lent output"
pub data Lent (out : List ℕ) : Outcome (List ℕ) → (number place size : ℕ) (after : List ℕ) → Type 0 where
  refused : {n p : ℕ} → Lent out (refuse n p) n p 0 out
  short : {x : List ℕ} → length out < length x → Lent out (give x) 34 0 0 out
  written : {x : List ℕ} → length x ≤ length out → Lent out (give x) 0 0 (length x) (front x out)

-- ---- the calls: number 0 and the answer; or the refusal's number and its place, "each shows empty parts, kind and operator none,
-- no value present, counts and lengths 0"

-- a stretch of the listing
pub record Part : Type 0 where
  pub start : ℕ
  pub size : ℕ

abbrev pub shown : List ℕ → Part → List ℕ
shown w x = take x.size (drop x.start w)

abbrev pub no_part : Part
no_part = record { start = 0; size = 0 }

-- "a part shown is the raw stretch"
abbrev pub part_of : Text ℕ → Part
part_of t = record { start = t.place; size = length (raw t.read) }

abbrev pub kind_number : Kind → ℕ
kind_number dna = 1
kind_number rna = 2
kind_number aa = 3

-- what is shown of a feature beside its spans
pub record FeatureShown : Type 0 where
  pub key : Part
  pub location : Part
  pub operator : ℕ
  pub count : ℕ

abbrev pub nothing_shown : FeatureShown
nothing_shown = record { key = no_part; location = no_part; operator = 0; count = 0 }

-- what a refusal shows and changes
abbrev pub NoSequence : (kind : ℕ) (residues : Part) → Type 0
NoSequence d r = (d ≡ 0) × (r ≡ no_part)

abbrev pub NoFeature : FeatureShown → (out after : List ℕ) → Type 0
NoFeature x out after = (x ≡ nothing_shown) × (after ≡ out)

abbrev pub NoQualifier : (name : Part) (present : Bool) (value : Part) → Type 0
NoQualifier a b v = (a ≡ no_part) × (b ≡ false) × (v ≡ no_part)

abbrev pub NothingWritten : (size : ℕ) (out after : List ℕ) → Type 0
NothingWritten z out after = (z ≡ 0) × (after ≡ out)

-- "Sequence: its kind, and its residues as the part of the lent listing."
pub data SequenceSays (w : List ℕ) (k : ℕ) : (number place kind : ℕ) (residues : Part) → Type 0 where
  refused : {n p : ℕ} → FindsSequence w k (refuse n p) → SequenceSays w k n p 0 no_part
  found : {s : Sequence ℕ} (d : Kind) → FindsSequence w k (give s) → IsKind d s → SequenceSays w k 0 0 (kind_number d) (part_of s.residues)

-- "Feature: its key and location parts."; "Spans of a feature: operator (none, join, order), count, triples into lent 32-bit numbers.";
-- and of request 6 of 02: "Merge the two calls: one answer with key part, location part, operator, count and spans, refusals in 01's
-- order. .. Short room refuses the whole call, parts included."
abbrev pub triples : List Span → List ℕ
triples [] = []
triples (x ∷ l) = x.first ∷ x.last ∷ x.marks ∷ triples l

abbrev pub shown_of : Feature ℕ → Location → FeatureShown
shown_of f t = record { key = part_of f.key; location = part_of f.location; operator = operator_number t; count = length (spans t) }

pub data FeatureSays (w : List ℕ) (k j : ℕ) (out : List ℕ) : (number place : ℕ) → FeatureShown → (after : List ℕ) → Type 0 where
  refused : {n p : ℕ} → FindsLocation w k j (refuse n p) → FeatureSays w k j out n p nothing_shown out
  short : {f : Feature ℕ} {t : Location} → FindsLocation w k j (give (f, t)) → length out < length (triples (spans t))
      → FeatureSays w k j out 34 0 nothing_shown out
  found : {f : Feature ℕ} {t : Location} → FindsLocation w k j (give (f, t)) → length (triples (spans t)) ≤ length out
      → FeatureSays w k j out 0 0 (shown_of f t) (front (triples (spans t)) out)

-- "Qualifier: its name part, whether a value is present, and its part (empty if absent)."
abbrev pub is_present : Option (Text ℕ) → Bool
is_present none = false
is_present (some t) = true

abbrev pub value_part : Option (Text ℕ) → Part
value_part none = no_part
value_part (some t) = part_of t

pub data QualifierSays (w : List ℕ) (k j i : ℕ) : (number place : ℕ) (name : Part) (present : Bool) (value : Part) → Type 0 where
  refused : {n p : ℕ} → FindsQualifier w k j i (refuse n p) → QualifierSays w k j i n p no_part false no_part
  found : {q : Qualifier ℕ} → FindsQualifier w k j i (give q)
      → QualifierSays w k j i 0 0 (part_of q.name) (is_present q.value) (value_part q.value)

-- "One translation into lent bytes, with its length."
pub record TranslationSays (w : List ℕ) (k j : ℕ) (out : List ℕ) (number place size : ℕ) (after : List ℕ) : Type 0 where
  pub outcome : Outcome (List ℕ)
  pub finds : FindsTranslation w k j outcome
  pub lent : Lent out outcome number place size after

-- "All translations of a sequence .."
pub record TranslationsSays (w : List ℕ) (k : ℕ) (out : List ℕ) (number place size : ℕ) (after : List ℕ) : Type 0 where
  pub outcome : Outcome (List ℕ)
  pub finds : FindsTranslations w k outcome
  pub lent : Lent out outcome number place size after

-- ---- the program: "reads standard input up to 65,536 bytes and prints these lines, byte 10 after each"

abbrev pub program_limit : ℕ
program_limit = 65536

abbrev pub line : List ℕ → ℕ → List ℕ
line word n = word ++ (bytes " " ++ (decimal n ++ bytes "\n"))

abbrev pub page : Verdict → List ℕ
page (Ok a) =
    bytes "verdict accepted\n"
    ++ (line (bytes "total") a.total
    ++ (line (bytes "skipped") a.skipped
    ++ (line (bytes "features") a.features ++ (line (bytes "judged") a.judged ++ line (bytes "unjudged") a.unjudged))))
page (Err r) = bytes "verdict refused\n" ++ (line (bytes "rule") r.rule ++ line (bytes "place") r.place)

-- what is printed for the bytes w: ".. More bytes give the one line `verdict too long for this program`."
pub data Prints (w : List ℕ) : List ℕ → Type 0 where
  too_long : program_limit < length w → Prints w (bytes "verdict too long for this program\n")
  verdict : (v : Verdict) → length w ≤ program_limit → CheckSays w v → Prints w (page v)
