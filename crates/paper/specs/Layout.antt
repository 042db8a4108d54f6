-- The layout: which bytes a listing is written as. In document 01's words and order; source 004 is its DTD.
use Rattle.std.specs.Prelude.{ℕ, ◌≡◌, Bool, List, [], ◌++◌}
use Rattle.std.proofs.Math.Option.{Option, none}
use Rattle.paper.specs.Bytes.{bytes, all, is_blank, is_printed, is_printed_or_high, raw}
use Rattle.paper.specs.Form.{Form, these, lit, ◌·◌, ◌∪◌, given, one, run, maybe, each, each⁺}
use Rattle.paper.specs.Tree.{Text, Spoken, Party, Identification, Heading, reference, application, Qualifier, Feature, Table, Sequence, Listing, Bare, forget}

-- any blanks
abbrev pub blanks : Form
blanks = run is_blank

-- one or more blanks
abbrev pub gap : Form
gap = one is_blank · blanks

-- a text of allowed characters: "A value's place is its first byte after the tag's `>` or opening quote"
abbrev pub text : (ℕ → Bool) → Text ℕ → Form
text allowed t at w = (t.place ≡ at) × all allowed t.read × (w ≡ raw t.read)

-- ---- tags; a name is given as bytes

-- `<name`
abbrev pub tag : List ℕ → Form
tag name = these (bytes "<" ++ name)

-- `</name>`: "an end tag may have blanks before `>`"
abbrev pub close : List ℕ → Form
close name = these (bytes "</" ++ name) · blanks · lit ">"

-- "A start tag has one or more blanks before each attribute"; "blanks around `=`" are left out
abbrev pub attribute : List ℕ → Text ℕ → Form
attribute name t = gap · these (name ++ bytes "=\"") · text is_printed t · lit "\""

abbrev pub attribute? : List ℕ → Option (Text ℕ) → Form
attribute? name = maybe (attribute name)

-- ---- "All others hold text"

-- the rest of a start tag, its text and its end tag, or "`<X/>` or `<X></X>`; both read alike", with the place: "of `<X/>`, its `<`"
abbrev pub content : List ℕ → (ℕ → Bool) → ℕ → Text ℕ → Form
content name allowed start t =
    blanks
    · (given ((t.place ≡ start) × (t.read ≡ [])) (lit "/>")
    ∪ lit ">" · text allowed t · close name)

abbrev pub leaf : List ℕ → Text ℕ → Form
leaf name t at = (tag name · content name is_printed at t) at

-- "The texts of ApplicantName, InventorName and InventionTitle may also hold bytes 128 to 255"
abbrev pub spoken : List ℕ → Spoken ℕ → Form
spoken name x at = (tag name · attribute (bytes "languageCode") x.language_code · content name is_printed_or_high at x.words) at

-- ---- "In the elements that hold elements any blanks may stand before, between and after the children, also where there is no child."

-- a child, and the blanks after it
abbrev pub child : {A : Type 0} → (A → Form) → A → Form
child F a = F a · blanks

abbrev pub child? : {A : Type 0} → (A → Form) → Option A → Form
child? F = maybe (child F)

-- the rest of a start tag, the children and the end tag
abbrev pub holding : List ℕ → Form → Form
holding name children = blanks · (lit ">" · blanks · children · close name)

-- the same where there may be no child: "An element with nothing in it may be written `<X/>` or `<X></X>`"
abbrev pub holding? : List ℕ → Type 0 → Form → Form
holding? name nothing children = blanks · (given nothing (lit "/>") ∪ lit ">" · blanks · children · close name)

-- ---- the elements

-- "Both identifications: IPOfficeCode?, ApplicationNumberText, FilingDate?."
abbrev pub identification : List ℕ → Identification ℕ → Form
identification name x =
    tag name
    · holding name
    (child? (leaf (bytes "IPOfficeCode")) x.office
    · child (leaf (bytes "ApplicationNumberText")) x.number
    · child? (leaf (bytes "FilingDate")) x.filed)

-- "either ApplicantFileReference, or ApplicationIdentification then ApplicantFileReference?"
abbrev pub heading : Heading ℕ → Form
heading (reference t) = child (leaf (bytes "ApplicantFileReference")) t
heading (application x t) =
    child (identification (bytes "ApplicationIdentification")) x · child? (leaf (bytes "ApplicantFileReference")) t

-- "optionally ApplicantName then ApplicantNameLatin?; optionally InventorName then InventorNameLatin?"
abbrev pub party : List ℕ → List ℕ → Party ℕ → Form
party name latin x = child (spoken name) x.name · child? (leaf latin) x.latin

-- "INSDQualifier: INSDQualifier_name, INSDQualifier_value?."
abbrev pub qualifier : Qualifier ℕ → Form
qualifier q =
    tag (bytes "INSDQualifier")
    · holding (bytes "INSDQualifier")
    (child (leaf (bytes "INSDQualifier_name")) q.name
    · child? (leaf (bytes "INSDQualifier_value")) q.value)

-- "INSDFeature_quals: INSDQualifier*."
abbrev pub quals : List (Qualifier ℕ) → Form
quals l = tag (bytes "INSDFeature_quals") · holding? (bytes "INSDFeature_quals") (l ≡ []) (each (child qualifier) l)

-- "INSDFeature: INSDFeature_key, INSDFeature_location, INSDFeature_quals?."
abbrev pub feature : Feature ℕ → Form
feature f =
    tag (bytes "INSDFeature")
    · holding (bytes "INSDFeature")
    (child (leaf (bytes "INSDFeature_key")) f.key
    · child (leaf (bytes "INSDFeature_location")) f.location
    · child? quals f.quals)

-- "INSDSeq_feature-table: INSDFeature+."; its place is "`<` of the table's start tag"
abbrev pub table : Table ℕ → Form
table t at w =
    (t.place ≡ at)
    × (tag (bytes "INSDSeq_feature-table") · holding (bytes "INSDSeq_feature-table") (each⁺ (child feature) t.features)) at w

-- "INSDSeq_other-seqids: INSDSeqid?."
abbrev pub other_ids : Option (Text ℕ) → Form
other_ids t =
    tag (bytes "INSDSeq_other-seqids") · holding? (bytes "INSDSeq_other-seqids") (t ≡ none) (child? (leaf (bytes "INSDSeqid")) t)

-- "INSDSeq: INSDSeq_length, INSDSeq_moltype, INSDSeq_division, INSDSeq_other-seqids?, INSDSeq_feature-table?, INSDSeq_sequence."
abbrev pub inner : Sequence ℕ → Form
inner s =
    tag (bytes "INSDSeq")
    · holding (bytes "INSDSeq")
    (child (leaf (bytes "INSDSeq_length")) s.declared
    · child (leaf (bytes "INSDSeq_moltype")) s.moltype
    · child (leaf (bytes "INSDSeq_division")) s.division
    · child? other_ids s.other_ids
    · child? table s.table
    · child (leaf (bytes "INSDSeq_sequence")) s.residues)

-- "SequenceData, attribute sequenceIDNumber: INSDSeq."
abbrev pub sequence : Sequence ℕ → Form
sequence s =
    tag (bytes "SequenceData")
    · attribute (bytes "sequenceIDNumber") s.number
    · holding (bytes "SequenceData") (child inner s)

-- "Attributes: dtdVersion, then, each optional, fileName, softwareName, softwareVersion, productionDate."
abbrev pub attributes : Listing ℕ → Form
attributes l =
    attribute (bytes "dtdVersion") l.dtd_version
    · attribute? (bytes "fileName") l.file_name
    · attribute? (bytes "softwareName") l.software_name
    · attribute? (bytes "softwareVersion") l.software_version
    · attribute? (bytes "productionDate") l.production_date

-- what comes before the titles: "either ..; EarliestPriorityApplicationIdentification?; optionally ApplicantName ..; optionally
-- InventorName .."
abbrev pub parties : Listing ℕ → Form
parties l =
    heading l.heading
    · child? (identification (bytes "EarliestPriorityApplicationIdentification")) l.earliest
    · maybe (party (bytes "ApplicantName") (bytes "ApplicantNameLatin")) l.applicant
    · maybe (party (bytes "InventorName") (bytes "InventorNameLatin")) l.inventor

-- ".. InventionTitle+; SequenceTotalQuantity; SequenceData+."
abbrev pub root : Listing ℕ → Form
root l =
    tag (bytes "ST26SequenceListing")
    · attributes l
    · holding (bytes "ST26SequenceListing")
    (parties l
    · each⁺ (child (spoken (bytes "InventionTitle"))) l.titles
    · child (leaf (bytes "SequenceTotalQuantity")) l.total
    · each⁺ (child sequence) l.sequences)

-- the document type line, "whose four separating gaps are one or more blanks each"
abbrev pub doctype : Form
doctype =
    lit "<!DOCTYPE" · gap
    · lit "ST26SequenceListing" · gap
    · lit "PUBLIC" · gap
    · lit "\"-//WIPO//DTD Sequence Listing 1.2//EN\"" · gap
    · lit "\"ST26SequenceListing_V1_2.dtd\">"

-- "The text starts with exactly .., then any blanks, then .., then any blanks, the root, any blanks, the end."
abbrev pub document : Listing ℕ → Form
document l = lit "<?xml version=\"1.0\" encoding=\"UTF-8\"?>" · blanks · doctype · blanks · root l · blanks

-- the listing l, with the places of its texts, is written as the bytes w
pub record LaidOut (l : Listing ℕ) (w : List ℕ) : Type 0 where
  pub is : document l 0 w

-- the bare listing b is written as the bytes w
pub record Writes (b : Bare) (w : List ℕ) : Type 0 where
  pub listing : Listing ℕ
  pub laid : LaidOut listing w
  pub same : forget listing ≡ b
