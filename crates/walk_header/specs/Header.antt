-- What is promised of a walk along a listing's header.
use Rattle.std.specs.Prelude.{ℕ, ◌≡◌, List, [], ◌∷◌, drop}
use Rattle.std.specs.Prelude as rust
use Rattle.std.proofs.Math.Option.{Option, none, some}
use Rattle.paper.specs.Bytes.{bytes, is_blank}
use Rattle.paper.specs.Form.{Form, lit, run, ◌·◌, maybe, each}
use Rattle.paper.specs.Tree.{Text, Spoken, Party, Identification, Heading, reference, application, Listing}
use Rattle.paper.specs.Layout.{blanks, leaf, spoken, child, child?, identification, heading, party, sequence, attributes, parties, LaidOut}
use Rattle.read_steps.specs.Follow.{Not, Starts, StandsBefore, closing, skip}
use Rattle.walk_steps.specs.Stands.{Stands, others, IsPart, IsFound, MaybeIs, IsMaybe}
use Rattle.walk_steps.specs.declared.Found.{Found}
use Rattle.walk_steps.specs.declared.Range.{Range}
use Rattle.walk_header.specs.declared.Filing.{Filing}
use Rattle.walk_header.specs.declared.FoundAttributes.{FoundAttributes}
use Rattle.walk_header.specs.declared.FoundParties.{FoundParties}
use Rattle.walk_header.specs.declared.FoundHeader.{FoundHeader}

-- ---- what is asked

-- the texts that some header values are asked of
abbrev pub office_in : Option (Identification ℕ) → Option (Text ℕ)
office_in none = none
office_in (some x) = x.office

abbrev pub filed_in : Option (Identification ℕ) → Option (Text ℕ)
filed_in none = none
filed_in (some x) = x.filed

abbrev pub language_in : Option (Party ℕ) → Option (Text ℕ)
language_in none = none
language_in (some x) = some x.name.language_code

abbrev pub identified_by : Heading ℕ → Option (Identification ℕ)
identified_by (reference t) = none
identified_by (application x t) = some x

-- ---- attributes and names

-- the rest of a start tag behind its attributes
abbrev pub tag_end : List (List ℕ)
tag_end = bytes ">" ∷ []

pub record IsAttributes (s : List ℕ) (l : Listing ℕ) (e : ℕ) (r : FoundAttributes) : Type 0 where
  pub version : IsPart s l.dtd_version r.version
  pub produced : MaybeIs s l.production_date r.produced
  pub next : r.next ≡ e

abbrev pub FindsAttributes : List ℕ → ℕ → FoundAttributes → Type 0
FindsAttributes s at r = (l : Listing ℕ) (e : ℕ) → Stands (attributes l) s at e → Starts tag_end (skip (drop e s)) → IsAttributes s l e r

abbrev pub FindsSpoken : List ℕ → List ℕ → ℕ → Found Range → Type 0
FindsSpoken name s at r = (x : Spoken ℕ) (e : ℕ) → Stands (child (spoken name) x) s at e → Not is_blank (drop e s) → IsFound s x.language_code e r

-- a name and its Latin form, before what clashes with both
abbrev pub FindsParty : List ℕ → List ℕ → List ℕ → ℕ → Found (rust.Option Range) → Type 0
FindsParty name latin s at r =
    (l : List (List ℕ)) → StandsBefore name l → StandsBefore latin l → (o : Option (Party ℕ)) (e : ℕ) → Stands (maybe (party name latin) o) s at e → Starts l (drop e s) → IsMaybe s (language_in o) e r

-- ---- identifications

pub record IsFiling (s : List ℕ) (o : Option (Identification ℕ)) (r : Filing) : Type 0 where
  pub office : MaybeIs s (office_in o) r.office
  pub filed : MaybeIs s (filed_in o) r.filed

pub record IsIdentification (s : List ℕ) (o : Option (Identification ℕ)) (e : ℕ) (r : Found Filing) : Type 0 where
  pub part : IsFiling s o r.part
  pub next : r.next ≡ e

abbrev pub FindsIdentification : List ℕ → List ℕ → ℕ → Found Filing → Type 0
FindsIdentification name s at r =
    (x : Identification ℕ) (e : ℕ) → Stands (child (identification name) x) s at e → Not is_blank (drop e s) → IsIdentification s (some x) e r

abbrev pub FindsIdentificationMaybe : List ℕ → List ℕ → ℕ → Found Filing → Type 0
FindsIdentificationMaybe name s at r =
    (l : List (List ℕ)) → StandsBefore name l → (o : Option (Identification ℕ)) (e : ℕ) → Stands (child? (identification name) o) s at e → Starts l (drop e s) → IsIdentification s o e r

-- ---- what stands before the titles

-- what may follow the inventor, the applicant, the earliest identification and the heading
abbrev pub titled : List (List ℕ)
titled = bytes "<InventionTitle" ∷ []

abbrev pub inventing : List (List ℕ)
inventing = bytes "<InventorName" ∷ titled

abbrev pub applying : List (List ℕ)
applying = bytes "<ApplicantName" ∷ inventing

abbrev pub earlier : List (List ℕ)
earlier = bytes "<EarliestPriorityApplicationIdentification" ∷ applying

abbrev pub FindsHeading : List ℕ → ℕ → Found Filing → Type 0
FindsHeading s at r = (h : Heading ℕ) (e : ℕ) → Stands (heading h) s at e → Starts earlier (drop e s) → IsIdentification s (identified_by h) e r

pub record IsParties (s : List ℕ) (l : Listing ℕ) (e : ℕ) (r : FoundParties) : Type 0 where
  pub heading : IsFiling s (identified_by l.heading) r.heading
  pub earliest : IsFiling s l.earliest r.earliest
  pub applicant : MaybeIs s (language_in l.applicant) r.applicant
  pub inventor : MaybeIs s (language_in l.inventor) r.inventor
  pub next : r.next ≡ e

abbrev pub FindsParties : List ℕ → ℕ → FoundParties → Type 0
FindsParties s at r = (l : Listing ℕ) (e : ℕ) → Stands (parties l) s at e → Starts titled (drop e s) → IsParties s l e r

-- ---- the header

-- up to the first `>`, and the blanks after it
abbrev pub any_line : Form
any_line = run (others 62) · lit ">" · blanks

-- what stands behind the header: the titles, the total, the sequences
pub record Behind (s : List ℕ) (l : Listing ℕ) (at : ℕ) : Type 0 where
  pub stop : ℕ
  pub titles : Stands (each (child (spoken (bytes "InventionTitle"))) l.titles) s at stop
  pub next : ℕ
  pub total : Stands (child (leaf (bytes "SequenceTotalQuantity")) l.total) s stop next
  pub end : ℕ
  pub sequences : Stands (each (child sequence) l.sequences) s next end
  pub closes : Starts closing (drop end s)

pub record IsHeader (s : List ℕ) (l : Listing ℕ) (r : FoundHeader) : Type 0 where
  pub version : IsPart s l.dtd_version r.version
  pub produced : MaybeIs s l.production_date r.produced
  pub heading : IsFiling s (identified_by l.heading) r.heading
  pub earliest : IsFiling s l.earliest r.earliest
  pub applicant : MaybeIs s (language_in l.applicant) r.applicant
  pub inventor : MaybeIs s (language_in l.inventor) r.inventor
  pub behind : Behind s l r.titles

abbrev pub FindsHeader : List ℕ → FoundHeader → Type 0
FindsHeader s r = (l : Listing ℕ) → LaidOut l s → IsHeader s l r
