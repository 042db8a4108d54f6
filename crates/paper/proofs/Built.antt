-- Texts of the layout built from their words, each with the tree that it is a text of, at whatever place it stands. Here is what the
-- one listing of Accepted.antt needs: each child begins a line, no element is written `<X/>`.
use Prim.Native.Nat.{ℕ, ◌+◌}
use Prim.Native.String.{String}
use mathlib.Core.Path.{◌≡◌, refl}
use mathlib.Core.Bool.{Bool, true, false, cond}
use mathlib.Core.Logic.{inr}
use mathlib.Core.List.{List, [], ◌∷◌, ◌++◌}
use mathlib.Core.Option.{some}
use Rattle.paper.specs.Bytes.{bytes, all, is_printed, is_printed_or_high, raw}
use Rattle.paper.specs.Form.{Form, these, lit, ◌·◌, ◌∪◌, given, maybe, each, each⁺}
use Rattle.paper.specs.Tree.{Text, application, Qualifier}
use Rattle.paper.specs.Layout.{blanks, gap, text, tag, close, attribute, content, leaf, spoken, child, child?, holding, heading, qualifier, quals, feature, table, other_ids, sequence, identification, party, doctype, document}
use Rattle.paper.proofs.Forms.{Ever, ev_seq, ev_these, ev_run, ev_gap, ev_close, Evers, evs_then, evs_after, evs_both, evs_maybe, evs_each}

-- one text and then another, of which none, the second, the first or both have a value
infixl 60 ◌then◌ ◌▷◌ ◌◁◌ ◌⊗◌
abbrev ◌then◌ : {F G : Form} → Ever F → Ever G → Ever (F · G)
◌then◌ {F} {G} = ev_seq F G

abbrev ◌▷◌ : {A : Type 0} {P : Form} {L : A → Form} → Ever P → Evers L → Evers (λ (a : A). P · L a)
◌▷◌ {P = P} {L = L} = evs_after P L

abbrev ◌◁◌ : {A : Type 0} {L : A → Form} {P : Form} → Evers L → Ever P → Evers (λ (a : A). L a · P)
◌◁◌ {L = L} {P = P} = evs_then L P

abbrev ◌⊗◌ : {A B : Type 0} {L : A → Form} {M : B → Form} → Evers L → Evers M → Evers (λ (p : A × B). L p.0 · M p.1)
◌⊗◌ {L = L} {M = M} = evs_both L M

-- ---- texts

-- the bytes of a class
abbrev pub only : (ℕ → Bool) → List ℕ → List ℕ
only f [] = []
only f (b ∷ w) = cond (f b) (b ∷ only f w) (only f w)

pub all_only : (f : ℕ → Bool) (w : List ℕ) → all f (only f w)
all_only f [] = tt
all_only f (b ∷ w) = go (f b) refl (all_only f w)
  where
    go : (t : Bool) → f b ≡ t → all f (only f w) → all f (cond t (b ∷ only f w) (only f w))
    go true e h = (e, h)
    go false e h = h

-- what isn't allowed is left out, so nothing need be asked of the words
abbrev text_of : (allowed : ℕ → Bool) → String → Evers (text allowed)
text_of f x at = let w = only f (bytes x) in (record { place = at; read = w }, raw w, (refl, all_only f (bytes x), refl))

abbrev tight : Ever blanks
tight = ev_run _

abbrev line_end : Ever blanks
line_end at = (bytes "\n", (refl, tt))

abbrev attribute_of : (name : List ℕ) → String → Evers (attribute name)
attribute_of name x = ev_gap then ev_these (name ++ bytes "=\"") ▷ text_of is_printed x ◁ ev_these (bytes "\"")

-- not `/>`, and no blank before it
abbrev long : {A : Type 0} {L : A → Form} (nothing : A → Type 0) → Evers L → Evers (λ (a : A). blanks · (given (nothing a) (lit "/>") ∪ L a))
long nothing h at = let y = h (at + 0) in (y.0, y.1, ([], y.1, refl, tt, inr y.2))

abbrev content_of : (name : List ℕ) (allowed : ℕ → Bool) → String → (start : ℕ) → Evers (content name allowed start)
content_of name allowed x start = long (λ (t : Text ℕ). (t.place ≡ start) × (t.read ≡ [])) (ev_these (bytes ">") ▷ text_of allowed x ◁ ev_close name)

abbrev leaf_of : (name : List ℕ) → String → Evers (leaf name)
leaf_of name x at = (ev_these (bytes "<" ++ name) ▷ content_of name is_printed x at) at

abbrev spoken_of : (name : List ℕ) (code words : String) → Evers (spoken name)
spoken_of name code words at =
    let y = (ev_these (bytes "<" ++ name) ▷ attribute_of (bytes "languageCode") code ⊗ content_of name is_printed_or_high words at) at in
    (record { language_code = y.0.0; words = y.0.1 }, y.1, y.2)

-- ---- elements that hold elements

module _ {A : Type 0} {F : A → Form} where
  abbrev child_of : Evers F → Evers (child F)
  child_of h = h ◁ line_end

  abbrev some_of : Evers F → Evers (maybe F)
  some_of h at = let y = h at in (some y.0, y.1, y.2)

  abbrev each_of : List (Evers F) → Evers (each F)
  each_of [] = evs_each F
  each_of (h ∷ l) = λ at. let y = (h ⊗ each_of l) at in (y.0.0 ∷ y.0.1, y.1, y.2)

  abbrev each⁺_of : Evers F → List (Evers F) → Evers (each⁺ F)
  each⁺_of h l at = let y = each_of (h ∷ l) at in (y.0, y.1, y.2)

  -- behind a start tag: the children and the end tag
  abbrev inside : (name : List ℕ) → Evers F → Evers (λ (a : A). lit ">" · blanks · F a · close name)
  inside name h = ev_these (bytes ">") then line_end ▷ h ◁ ev_close name

  abbrev holding_of : (name : List ℕ) → Evers F → Evers (λ (a : A). holding name (F a))
  holding_of name h = tight ▷ inside name h

  abbrev element_of : (name : List ℕ) → Evers F → Evers (λ (a : A). tag name · holding name (F a))
  element_of name h = ev_these (bytes "<" ++ name) ▷ holding_of name h

-- ---- the elements, each with the line end behind it

abbrev word_of : (name : String) → String → Evers (child (leaf (bytes name)))
word_of name x = child_of (leaf_of (bytes name) x)

abbrev pub qualifier_of : (name value : String) → Evers (child qualifier)
qualifier_of name value =
    child_of (λ at.
    let y = element_of (bytes "INSDQualifier") (word_of "INSDQualifier_name" name ⊗ some_of (word_of "INSDQualifier_value" value)) at in
    (record { name = y.0.0; value = y.0.1 }, y.1, y.2))

abbrev quals_of : List (Evers (child qualifier)) → Evers quals
quals_of l = ev_these (bytes "<INSDFeature_quals") ▷ long (λ (l : List (Qualifier ℕ)). l ≡ []) (inside (bytes "INSDFeature_quals") (each_of l))

abbrev pub feature_of : (key location : String) → List (Evers (child qualifier)) → Evers (child feature)
feature_of key location l =
    child_of (λ at.
    let y = element_of (bytes "INSDFeature") (word_of "INSDFeature_key" key ⊗ word_of "INSDFeature_location" location ⊗ some_of (child_of (quals_of l))) at in
    (record { key = y.0.0.0; location = y.0.0.1; quals = y.0.1 }, y.1, y.2))

abbrev pub table_of : Evers (child feature) → List (Evers (child feature)) → Evers (child? table)
table_of f l =
    some_of (child_of (λ at.
    let y = element_of (bytes "INSDSeq_feature-table") (each⁺_of f l) at in
    (record { place = at; features = y.0 }, y.1, (refl, y.2))))

abbrev pub sequence_of : (number declared moltype division : String) → Evers (child? table) → (residues : String) → Evers (child sequence)
sequence_of number declared moltype division t residues =
    child_of (λ at.
    let texts = word_of "INSDSeq_length" declared ⊗ word_of "INSDSeq_moltype" moltype ⊗ word_of "INSDSeq_division" division in
    let rest = element_of (bytes "INSDSeq") (texts ⊗ evs_maybe (child other_ids) ⊗ t ⊗ word_of "INSDSeq_sequence" residues) in
    let y = (ev_these (bytes "<SequenceData") ▷ attribute_of (bytes "sequenceIDNumber") number ⊗ holding_of (bytes "SequenceData") (child_of rest)) at in
    let z = y.0.1 in (
      record {
        number = y.0.0;
        declared = z.0.0.0.0.0;
        moltype = z.0.0.0.0.1;
        division = z.0.0.0.1;
        other_ids = z.0.0.1;
        table = z.0.1;
        residues = z.1;
      },
      y.1,
      y.2,
    ))

-- ---- the whole

abbrev next : {F : Form} (x : List ℕ) → Ever F → Ever (F · gap · these x)
next x h = h then ev_gap then ev_these x

abbrev doctype_of : Ever doctype
doctype_of = next _ (next _ (next _ (next _ (ev_these (bytes "<!DOCTYPE")))))

abbrev pub heading_of : (office number : String) → Evers heading
heading_of office number at =
    let texts = some_of (word_of "IPOfficeCode" office) ⊗ word_of "ApplicationNumberText" number ⊗ evs_maybe (child (leaf (bytes "FilingDate"))) in
    let y = (child_of (element_of (bytes "ApplicationIdentification") texts) ⊗ evs_maybe (child (leaf (bytes "ApplicantFileReference")))) at in
    let z = y.0.0 in
    (application (record { office = z.0.0; number = z.0.1; filed = z.1 }) y.0.1, y.1, y.2)

abbrev pub document_of : (version date : String) → Evers heading → (code title total : String)
    → Evers (child sequence) → List (Evers (child sequence)) → Evers document
document_of version date h code title total s l at =
    let names = attribute_of (bytes "dtdVersion") version ⊗ evs_maybe (attribute (bytes "fileName")) ⊗ evs_maybe (attribute (bytes "softwareName")) in
    let attributes = names ⊗ evs_maybe (attribute (bytes "softwareVersion")) ⊗ some_of (attribute_of (bytes "productionDate") date) in
    let filed = h ⊗ evs_maybe (child (identification (bytes "EarliestPriorityApplicationIdentification"))) in
    let parties = filed ⊗ evs_maybe (party (bytes "ApplicantName") (bytes "ApplicantNameLatin")) ⊗ evs_maybe (party (bytes "InventorName") (bytes "InventorNameLatin")) in
    let titles = each⁺_of (child_of (spoken_of (bytes "InventionTitle") code title)) [] in
    let children = parties ⊗ titles ⊗ word_of "SequenceTotalQuantity" total ⊗ each⁺_of s l in
    let root = ev_these (bytes "<ST26SequenceListing") ▷ attributes ⊗ holding_of (bytes "ST26SequenceListing") children in
    let y = (ev_these (bytes "<?xml version=\"1.0\" encoding=\"UTF-8\"?>") then line_end then doctype_of then line_end ▷ root ◁ line_end) at in
    let a = y.0.0 in
    let z = y.0.1 in
    let p = z.0.0.0 in (
      record {
        dtd_version = a.0.0.0.0;
        file_name = a.0.0.0.1;
        software_name = a.0.0.1;
        software_version = a.0.1;
        production_date = a.1;
        heading = p.0.0.0;
        earliest = p.0.0.1;
        applicant = p.0.1;
        inventor = p.1;
        titles = z.0.0.1;
        total = z.0.1;
        sequences = z.1;
      },
      y.1,
      y.2,
    )
