-- Stretches of the layout that are not an element of their own: what the functions between the elements read.
use Rattle.std.specs.Prelude.{ℕ, List, [], ◌∷◌}
use Rattle.std.proofs.Math.Option.{Option, none}
use Rattle.paper.specs.Bytes.{bytes, is_blank}
use Rattle.paper.specs.Form.{Form, lit, ◌·◌, maybe}
use Rattle.paper.specs.Tree.{Text, Spoken, Party, Identification, Heading, reference, Table, Sequence, Listing}
use Rattle.paper.specs.Layout.{blanks, tag, close, holding?, party, inner, attributes, parties}
use Rattle.read_steps.specs.Reads.{Step, Reads, Passes}
use Rattle.read_steps.specs.Follow.{Not, Starts, StandsBefore, anything, skip}

-- blanks, the `>` of a start tag, and blanks
pub record Enters (s : List ℕ) (x r : Step) : Type 0 where
  pub head : Step
  pub open_at : Step
  pub before : Passes blanks (Not is_blank) s x head
  pub opens : Passes (lit ">") anything s head open_at
  pub after : Passes blanks (Not is_blank) s open_at r

-- an end tag, and blanks
pub record Leaves (name s : List ℕ) (x r : Step) : Type 0 where
  pub closed : Step
  pub closes : Passes (close name) anything s x closed
  pub after : Passes blanks (Not is_blank) s closed r

-- a name and its Latin form, or none, before whatever clashes with both
abbrev pub MaybeParty : List ℕ → List ℕ → List ℕ → Step → Step → Type 0
MaybeParty name latin s x r =
    (l : List (List ℕ)) → StandsBefore name l → StandsBefore latin l → Reads (maybe (party name latin)) (Starts l) s x r

-- what INSDSeq holds
pub record Held : Type 0 where
  pub declared : Text ℕ
  pub moltype : Text ℕ
  pub division : Text ℕ
  pub other_ids : Option (Option (Text ℕ))
  pub table : Option (Table ℕ)
  pub residues : Text ℕ

abbrev pub numbered : Text ℕ → Held → Sequence ℕ
numbered n h =
    record {
      number = n;
      declared = h.declared;
      moltype = h.moltype;
      division = h.division;
      other_ids = h.other_ids;
      table = h.table;
      residues = h.residues;
    }

abbrev no_text : Text ℕ
no_text = record { place = 0; read = [] }

-- INSDSeq, which says nothing of the sequence's number
abbrev pub held : Held → Form
held h = inner (numbered no_text h)

-- the root's attributes
pub record Attributes : Type 0 where
  pub dtd_version : Text ℕ
  pub file_name : Option (Text ℕ)
  pub software_name : Option (Text ℕ)
  pub software_version : Option (Text ℕ)
  pub production_date : Option (Text ℕ)

-- what stands before the titles
pub record Parties : Type 0 where
  pub heading : Heading ℕ
  pub earliest : Option (Identification ℕ)
  pub applicant : Option (Party ℕ)
  pub inventor : Option (Party ℕ)

abbrev pub listing : Attributes → Parties → List (Spoken ℕ) → Text ℕ → List (Sequence ℕ) → Listing ℕ
listing a p titles total sequences =
    record {
      dtd_version = a.dtd_version;
      file_name = a.file_name;
      software_name = a.software_name;
      software_version = a.software_version;
      production_date = a.production_date;
      heading = p.heading;
      earliest = p.earliest;
      applicant = p.applicant;
      inventor = p.inventor;
      titles = titles;
      total = total;
      sequences = sequences;
    }

abbrev no_attributes : Attributes
no_attributes = record { dtd_version = no_text; file_name = none; software_name = none; software_version = none; production_date = none }

abbrev no_parties : Parties
no_parties = record { heading = reference no_text; earliest = none; applicant = none; inventor = none }

-- the attributes say nothing of what the root holds, and what stands before the titles nothing of the rest
abbrev pub attributed : Attributes → Form
attributed a = attributes (listing a no_parties [] no_text [])

abbrev pub introduced : Parties → Form
introduced p = parties (listing no_attributes p [] no_text [])

-- ---- what may follow

abbrev pub titled : List (List ℕ)
titled = bytes "<InventionTitle" ∷ []

abbrev pub totalled : List (List ℕ)
totalled = bytes "<SequenceTotalQuantity" ∷ []

abbrev pub close_tag : List (List ℕ)
close_tag = bytes ">" ∷ []

abbrev pub earlier : List (List ℕ)
earlier =
    bytes "<EarliestPriorityApplicationIdentification" ∷ bytes "<ApplicantName" ∷ bytes "<InventorName" ∷ titled

-- behind its blanks z starts with one of these
abbrev pub StartsPast : List (List ℕ) → List ℕ → Type 0
StartsPast l z = Starts l (skip z)

-- what follows a tag where there may be no child: `no_child a` says that a has none
abbrev pub HoldingRest : {A : Type 0} → List ℕ → (A → Type 0) → (A → Form) → A → Form
HoldingRest name no_child children a = holding? name (no_child a) (children a)

-- an element that may have no child
abbrev pub Holding : {A : Type 0} → List ℕ → (A → Type 0) → (A → Form) → A → Form
Holding name no_child children a = tag name · HoldingRest name no_child children a
