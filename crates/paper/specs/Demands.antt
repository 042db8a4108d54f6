-- The demands of document 00, for an auditor to print: each sentence that can be said of answers, and beside it the statement.
-- They speak of whatever answers the paper allows; that a call gives such an answer for every input is the call's own promise. Proofs:
-- demands 1 and 2 and request 6 in paper/proofs/Demands.antt, request 7 in Lending.antt there, demand 3 in ask_check/proofs/Demands.antt,
-- request 5 in ask_index/proofs/Request.antt.
use Rattle.std.specs.Prelude.{ℕ, suc, ◌+◌, ◌*◌, ◌-◌, ◌/◌, ◌≤◌, ◌≡◌, Bool, ◌⊎◌, ◌↔◌, Ok, Err, List, [], ◌∷◌, map, length, take}
use Rattle.paper.specs.Bytes.{raw}
use Rattle.paper.specs.Lists.{◌∈◌}
use Rattle.paper.specs.Tree.{Text, Feature, Sequence, Listing, Bare, texts_of, features_of}
use Rattle.paper.specs.Layout.{LaidOut, Writes}
use Rattle.paper.specs.Locations.{Location, Locates, Span, spans, operator_number, symbol_count}
use Rattle.paper.specs.Rules.{L, Coding, Breaks}
use Rattle.paper.specs.Answers.{limit, give, Verdict, Checked, CheckSays, FindsSequence, FindsFeature, FindsLocation, Part, FeatureShown, shown, part_of, triples, front, SequenceSays, FeatureSays, QualifierSays, TranslationSays, TranslationsSays, NoSequence, NoFeature, NoQualifier, NothingWritten}
use Rattle.paper.specs.Index.{body_of, index_of, IndexSays, IndexCheckSays, IndexedSequenceSays, IndexedFeatureSays, IndexedQualifierSays, IndexedTranslationSays, IndexedTranslationsSays}
use Rattle.paper.specs.declared.Figures.{Figures}
use Rattle.paper.specs.declared.Refused.{Refused}

-- ---- demand 1

-- ".. one of the numbered refusals of document 01", with the place that 01 gives it
pub data Refusal : (number place : ℕ) → Type 0 where
  -- "more than 16,777,216 bytes | 0"
  too_long : Refusal 1 0
  -- "not of the layout | length of the longest beginning .."
  not_laid_out : {p : ℕ} → Refusal 2 p
  -- the value rules, at the place of a text, a tag or (18) a residue
  value : {n p : ℕ} → 10 ≤ n → n ≤ 29 → Refusal n p
  -- "Every refusal number that a request adds counts as one of 01's." (02): 40 to 42 "carry their place as 10 to 29 do"
  vocabulary : {n p : ℕ} → 40 ≤ n → n ≤ 42 → Refusal n p
  -- "30 no such sequence; .. 37 stop inside"
  lookup : {n : ℕ} → 30 ≤ n → n ≤ 37 → Refusal n 0
  -- "refusal 50 with the first differing place" (02, request 5)
  index_differs : {p : ℕ} → Refusal 50 p

-- "Each call ends with an answer or one of the numbered refusals of document 01. A refused call leaves lent output as it found it and
-- shows an empty part.": number 0, or a refusal and then nothing is shown or changed
abbrev pub AnswerOrRefusal : (number place : ℕ) → Type 0 → Type 0
AnswerOrRefusal number place nothing = ((number ≡ 0) × (place ≡ 0)) ⊎ (Refusal number place × nothing)

pub record Demand1 : Type 0 where
  pub check : (w : List ℕ) (r : Refused) → CheckSays w (Err r) → Refusal r.rule r.place
  pub sequence : (w : List ℕ) (k n p d : ℕ) (r : Part) → SequenceSays w k n p d r → AnswerOrRefusal n p (NoSequence d r)
  pub feature : (w : List ℕ) (k j n p : ℕ) (x : FeatureShown) (out after : List ℕ) → FeatureSays w k j out n p x after
      → AnswerOrRefusal n p (NoFeature x out after)
  pub qualifier : (w : List ℕ) (k j i n p : ℕ) (a v : Part) (b : Bool) → QualifierSays w k j i n p a b v → AnswerOrRefusal n p (NoQualifier a b v)
  pub translation : (w : List ℕ) (k j n p z : ℕ) (out after : List ℕ) → TranslationSays w k j out n p z after → AnswerOrRefusal n p (NothingWritten z out after)
  pub translations : (w : List ℕ) (k n p z : ℕ) (out after : List ℕ) → TranslationsSays w k out n p z after → AnswerOrRefusal n p (NothingWritten z out after)
  -- and of the calls that request 5 of 02 adds
  pub index : (w : List ℕ) (n p z : ℕ) (out after : List ℕ) → IndexSays w out n p z after → AnswerOrRefusal n p (NothingWritten z out after)
  pub index_check : (w x : List ℕ) (n p : ℕ) → IndexCheckSays w x n p → AnswerOrRefusal n p (Unit {0})
  pub indexed_sequence : (w x : List ℕ) (k n p d : ℕ) (r : Part) → IndexedSequenceSays w x k n p d r → AnswerOrRefusal n p (NoSequence d r)
  pub indexed_feature : (w x : List ℕ) (k j n p : ℕ) (y : FeatureShown) (out after : List ℕ) → IndexedFeatureSays w x k j out n p y after
      → AnswerOrRefusal n p (NoFeature y out after)
  pub indexed_qualifier : (w x : List ℕ) (k j i n p : ℕ) (a v : Part) (b : Bool) → IndexedQualifierSays w x k j i n p a b v → AnswerOrRefusal n p (NoQualifier a b v)
  pub indexed_translation : (w x : List ℕ) (k j n p z : ℕ) (out after : List ℕ) → IndexedTranslationSays w x k j out n p z after
      → AnswerOrRefusal n p (NothingWritten z out after)
  pub indexed_translations : (w x : List ℕ) (k n p z : ℕ) (out after : List ℕ) → IndexedTranslationsSays w x k out n p z after
      → AnswerOrRefusal n p (NothingWritten z out after)

-- ---- demand 2: verdict, counts, spans and translations, the first broken rule and its place stand in Answers

-- a part lies in the listing
abbrev pub InListing : List ℕ → Part → Type 0
InListing w x = x.start + x.size ≤ length w

-- the part of a text lies in the listing and is the text as it is written
pub record StatedStretch (w : List ℕ) (t : Text ℕ) : Type 0 where
  pub inside : InListing w (part_of t)
  pub holds : shown w (part_of t) ≡ raw t.read

-- a span lies in 1 to n
pub record Inside (n : ℕ) (x : Span) : Type 0 where
  pub first_low : 1 ≤ x.first
  pub first_high : x.first ≤ n
  pub last_low : 1 ≤ x.last
  pub last_high : x.last ≤ n

pub record Demand2 : Type 0 where
  -- "Every part shown is the stated stretch of the lent listing."
  pub parts : (w : List ℕ) (l : Listing ℕ) → LaidOut l w → (t : Text ℕ) → t ∈ texts_of l → StatedStretch w t
  -- the same of the calls that show parts, refused ones too: whoever reads start and size never leaves the listing
  pub sequence : (w : List ℕ) (k n p kind : ℕ) (residues : Part) → SequenceSays w k n p kind residues → InListing w residues
  pub feature : (w : List ℕ) (k j n p : ℕ) (x : FeatureShown) (out after : List ℕ) → FeatureSays w k j out n p x after
      → InListing w x.key × InListing w x.location
  pub qualifier : (w : List ℕ) (k j i n p : ℕ) (name value : Part) (present : Bool) → QualifierSays w k j i n p name present value
      → InListing w name × InListing w value
  -- and "whatever is shown is part of the listing, never of the index" (02, request 5)
  pub indexed_sequence : (w x : List ℕ) (k n p d : ℕ) (r : Part) → IndexedSequenceSays w x k n p d r → InListing w r
  pub indexed_feature : (w x : List ℕ) (k j n p : ℕ) (y : FeatureShown) (out after : List ℕ) → IndexedFeatureSays w x k j out n p y after
      → InListing w y.key × InListing w y.location
  pub indexed_qualifier : (w x : List ℕ) (k j i n p : ℕ) (a v : Part) (b : Bool) → IndexedQualifierSays w x k j i n p a b v → InListing w a × InListing w v
  -- "No accepted location points outside its sequence .."
  pub locations : (w : List ℕ) (l : Listing ℕ) → Checked w (give l) → (s : Sequence ℕ) → s ∈ l.sequences → (f : Feature ℕ) → f ∈ features_of s
      → (t : Location) → Locates t f.location.read → (x : Span) → x ∈ spans t → Inside (L s) x
  -- ".. and the total counts skipped sequences too."
  pub total : (w : List ℕ) (a : Figures) (c : CheckSays w (Ok a)) → a.total ≡ length c.0.sequences

-- ---- demand 3

-- the verdict is that the listing is accepted
pub record IsAccepted (r : Verdict) : Type 0 where
  pub figures : Figures
  pub is : r ≡ Ok figures

-- "bytes, at most 16,777,216 of them", that "01's layout writes .. from some listing whose values break none of rules 10 to 29"; with 02's
-- request 1 "demand 3 then reads rules 10 to 29 and 40 to 42"
pub record Good (w : List ℕ) : Type 0 where
  pub short : length w ≤ limit
  pub bare : Bare
  pub writes : Writes bare w
  pub keeps : (n : ℕ) → ¬ Breaks bare n

pub record Demand3 : Type 0 where
  -- "They are accepted exactly when 01's layout writes them from some listing whose values break none of rules 10 to 29 [and 40 to 42], .."
  pub exactly : (w : List ℕ) (r : Verdict) → CheckSays w r → IsAccepted r ↔ Good w
  -- ".. and then no other listing is written by those bytes."
  pub no_other : (w : List ℕ) (a b : Bare) → Writes a w → Writes b w → a ≡ b
  -- there are such bytes, so not all are refused
  pub someone : (w : List ℕ) × Good w

-- ---- request 5 of document 02: an index that travels with the listing

pub record Request5 : Type 0 where
  -- "A checker takes it only if it is the one the maker would write for the listing beside it": exactly then
  pub exactly : (w x out after : List ℕ) (size : ℕ) → IndexSays w out 0 0 size after → IndexCheckSays w x 0 0 ↔ (x ≡ take size after)
  -- how much room the maker needs: a quarter of the listing's length is enough for every accepted listing
  pub room : (w out after : List ℕ) (l : Listing ℕ) (n p size : ℕ) → Checked w (give l) → length w / 4 ≤ length out → IndexSays w out n p size after → n ≡ 0
  -- "Lookups with an index first run that checker. After it they equal the plain lookups"
  pub sequence : (w x : List ℕ) → IndexCheckSays w x 0 0 → (k n p d : ℕ) (r : Part) → IndexedSequenceSays w x k n p d r ↔ SequenceSays w k n p d r
  pub feature : (w x : List ℕ) → IndexCheckSays w x 0 0 → (k j n p : ℕ) (y : FeatureShown) (out after : List ℕ)
      → IndexedFeatureSays w x k j out n p y after ↔ FeatureSays w k j out n p y after
  pub qualifier : (w x : List ℕ) → IndexCheckSays w x 0 0 → (k j i n p : ℕ) (a v : Part) (b : Bool)
      → IndexedQualifierSays w x k j i n p a b v ↔ QualifierSays w k j i n p a b v
  pub translation : (w x : List ℕ) → IndexCheckSays w x 0 0 → (k j n p z : ℕ) (out after : List ℕ)
      → IndexedTranslationSays w x k j out n p z after ↔ TranslationSays w k j out n p z after
  pub translations : (w x : List ℕ) → IndexCheckSays w x 0 0 → (k n p z : ℕ) (out after : List ℕ)
      → IndexedTranslationsSays w x k out n p z after ↔ TranslationsSays w k out n p z after
  -- "An old index whose every number still fits is harmless and accepted.": that of the accepted listing v is taken for the accepted
  -- listing w where the numbers of their sequences are the same, whatever else of them differs; and then all of the above holds of it
  pub old : (v w : List ℕ) (l m : Listing ℕ) → Checked v (give l) → Checked w (give m) → map body_of l.sequences ≡ map body_of m.sequences
      → IndexCheckSays w (index_of l) 0 0

-- ---- request 6 of document 02: one call for a feature

-- what is shown, counted and written is of one feature, the one asked for, and of the location text shown beside it
pub record OfOneFeature (w : List ℕ) (k j : ℕ) (out : List ℕ) (x : FeatureShown) (after : List ℕ) : Type 0 where
  pub sequence : Sequence ℕ
  pub feature : Feature ℕ
  pub location : Location
  pub asked : FindsFeature w k j (give (sequence, feature))
  pub key_shown : shown w x.key ≡ raw feature.key.read
  pub location_shown : shown w x.location ≡ raw feature.location.read
  pub located : Locates location feature.location.read
  pub operator : x.operator ≡ operator_number location
  pub count : x.count ≡ length (spans location)
  pub written : after ≡ front (triples (spans location)) out

pub record Request6 : Type 0 where
  -- "one answer with key part, location part, operator, count and spans"
  pub one : (w : List ℕ) (k j : ℕ) (x : FeatureShown) (out after : List ℕ) → FeatureSays w k j out 0 0 x after → OfOneFeature w k j out x after
  -- "Short room refuses the whole call, parts included."
  pub whole : (w : List ℕ) (k j p : ℕ) (x : FeatureShown) (out after : List ℕ) → FeatureSays w k j out 34 p x after → NoFeature x out after

-- ---- request 7 of document 02: how much room must I lend?

-- "A table of three times that many numbers": for the spans of a location text of c characters
abbrev pub spans_room : ℕ → ℕ
spans_room c = 3 * ((c + 1) / 2)

-- how many residues spans name
abbrev pub residues_named : List Span → ℕ
residues_named [] = 0
residues_named (x ∷ l) = suc x.last - x.first + residues_named l

-- the same for a translation, by its spans: a letter takes three residues
abbrev pub translation_room : List Span → ℕ
translation_room l = residues_named l / 3

-- and for the lines of features: of each CDS its letters or `-`, and byte 10
pub data LinesRoom (s : Sequence ℕ) : List (Feature ℕ) → ℕ → Type 0 where
  end : LinesRoom s [] 0
  no_cds : {f : Feature ℕ} {l : List (Feature ℕ)} {n : ℕ} → ¬ Coding s f → LinesRoom s l n → LinesRoom s (f ∷ l) n
  cds : {f : Feature ℕ} {l : List (Feature ℕ)} {t : Location} {n : ℕ} → Locates t f.location.read → LinesRoom s l n
      → LinesRoom s (f ∷ l) (translation_room (spans t) + 2 + n)

-- room that is "never refused with 34", without an index and with one
pub record FeatureFits (w : List ℕ) (k j : ℕ) (out : List ℕ) : Type 0 where
  pub plain : (p : ℕ) (x : FeatureShown) (after : List ℕ) → ¬ FeatureSays w k j out 34 p x after
  pub indexed : (y : List ℕ) (p : ℕ) (x : FeatureShown) (after : List ℕ) → ¬ IndexedFeatureSays w y k j out 34 p x after

pub record TranslationFits (w : List ℕ) (k j : ℕ) (out : List ℕ) : Type 0 where
  pub plain : (p z : ℕ) (after : List ℕ) → ¬ TranslationSays w k j out 34 p z after
  pub indexed : (y : List ℕ) (p z : ℕ) (after : List ℕ) → ¬ IndexedTranslationSays w y k j out 34 p z after

pub record TranslationsFit (w : List ℕ) (k : ℕ) (out : List ℕ) : Type 0 where
  pub plain : (p z : ℕ) (after : List ℕ) → ¬ TranslationsSays w k out 34 p z after
  pub indexed : (y : List ℕ) (p z : ℕ) (after : List ℕ) → ¬ IndexedTranslationsSays w y k out 34 p z after

pub record Request7 : Type 0 where
  -- "A location text of c characters as read has at most (c + 1) / 2 spans, rounded down; prove it for every accepted location."
  pub bound : (t : Location) (w : List ℕ) → Locates t w → length (spans t) ≤ (length w + 1) / 2
  -- "A table of three times that many numbers is then never refused with 34."
  pub room : (w : List ℕ) (k j : ℕ) (out : List ℕ)
      → ((s : Sequence ℕ) (f : Feature ℕ) → FindsFeature w k j (give (s, f)) → spans_room (length f.location.read) ≤ length out) → FeatureFits w k j out
  -- the same by the bytes that are shown of the location, of which there are at least as many; and by those of the listing
  pub room_shown : (w : List ℕ) (k j : ℕ) (out : List ℕ)
      → ((s : Sequence ℕ) (f : Feature ℕ) → FindsFeature w k j (give (s, f)) → spans_room (part_of f.location).size ≤ length out) → FeatureFits w k j out
  pub room_listing : (w : List ℕ) (k j : ℕ) (out : List ℕ) → spans_room (length w) ≤ length out → FeatureFits w k j out
  -- "That count equals the symbols in the definition's tree and is at most c."
  pub symbols : (t : Location) (w : List ℕ) → Locates t w → symbol_count t ≤ length w
  -- the same of what is answered
  pub answered : (w : List ℕ) (k j p : ℕ) (x : FeatureShown) (out after : List ℕ) → FeatureSays w k j out 0 p x after
      → x.count ≤ (x.location.size + 1) / 2
  -- of translations the same, by the spans
  pub translation : (w : List ℕ) (k j : ℕ) (out : List ℕ)
      → ((f : Feature ℕ) (t : Location) → FindsLocation w k j (give (f, t)) → translation_room (spans t) ≤ length out) → TranslationFits w k j out
  pub translations : (w : List ℕ) (k n : ℕ) (out : List ℕ) → ((s : Sequence ℕ) → FindsSequence w k (give s) → LinesRoom s (features_of s) n)
      → n ≤ length out → TranslationsFit w k out
