-- What is promised of the judgement of the header.
use Rattle.std.specs.Prelude as rust
use Rattle.std.specs.Prelude.{ℕ, ◌≡◌, Bool, None, List, [], ◌∷◌, map, drop, Some}
use Rattle.std.proofs.Math.Option.{Option}
use Rattle.paper.specs.Bytes.{bytes}
use Rattle.paper.specs.Lists.{◌∈◌, present}
use Rattle.paper.specs.Form.{each}
use Rattle.paper.specs.Layout.{LaidOut, child, spoken, sequence}
use Rattle.paper.specs.Tree.{Text, Spoken, Listing}
use Rattle.paper.specs.Values.{Date, Two, is_upper, is_lower}
use Rattle.paper.specs.Rules.{dates, offices, languages, InHeader}
use Rattle.read_steps.specs.Parts.{ShowsBytes}
use Rattle.read_steps.specs.Follow.{Starts, closing}
use Rattle.walk_steps.specs.Stands.{Stands, IsPart, MaybeIs}
use Rattle.walk_steps.specs.declared.Range.{Range}
use Rattle.walk_steps.specs.declared.Found.{Found}
use Rattle.walk_header.specs.Header.{office_in, filed_in, language_in, identified_by}
use Rattle.judge_faults.specs.Sets.{Fault, Faults, Firsts, Bad, unless_of}
use Rattle.judge_header.specs.declared.Headed.{Headed}

-- ---- its parts

-- rule m, at each text of a list that A does not hold of
abbrev pub Wrong : ℕ → (List ℕ → Type 0) → List (Text ℕ) → Faults
Wrong m A l n p = (t : Text ℕ) × (t ∈ l) × Bad m t.place (A t.read) n p

-- the test's answer for the bytes of a text, if it is there; `Answers` is what the test may answer
abbrev pub Tries : (List ℕ → Bool → Type 0) → ℕ → List ℕ → rust.Option Range → Fault → Type 0
Tries Answers m s None r = r ≡ None
Tries Answers m s (Some p) r = (w : List ℕ) × (ok : Bool) × ShowsBytes s p.from p.to w × Answers w ok × (r ≡ unless_of ok m p.from)

pub record JudgesMaybe (m : ℕ) (A : List ℕ → Type 0) (s : List ℕ) (x : rust.Option Range) (r : Fault) : Type 0 where
  pub says : (o : Option (Text ℕ)) → MaybeIs s o x → Firsts (Wrong m A (present o)) r

pub record JudgesVersion (s : List ℕ) (version : Range) (r : Fault) : Type 0 where
  pub says : (t : Text ℕ) → IsPart s t version → Firsts (Bad 10 t.place (t.read ≡ bytes "1_2")) r

pub record JudgesDates (s : List ℕ) (produced filed first : rust.Option Range) (r : Fault) : Type 0 where
  pub says : (l : Listing ℕ) → MaybeIs s l.production_date produced → MaybeIs s (filed_in (identified_by l.heading)) filed → MaybeIs s (filed_in l.earliest) first
      → Firsts (Wrong 11 Date (dates l)) r

pub record JudgesOffices (s : List ℕ) (office first : rust.Option Range) (r : Fault) : Type 0 where
  pub says : (l : Listing ℕ) → MaybeIs s (office_in (identified_by l.heading)) office → MaybeIs s (office_in l.earliest) first → Firsts (Wrong 12 (Two is_upper) (offices l)) r

abbrev pub codes : List (Spoken ℕ) → List (Text ℕ)
codes l = map (λ (x : Spoken ℕ). x.language_code) l

-- what follows the titles
abbrev pub totalled : List (List ℕ)
totalled = bytes "<SequenceTotalQuantity" ∷ []

pub record JudgesTitles (s : List ℕ) (first : ℕ) (r : Found Fault) : Type 0 where
  pub says : (l : List (Spoken ℕ)) (e : ℕ) → Stands (each (child (spoken (bytes "InventionTitle"))) l) s first e → Starts totalled (drop e s)
      → Firsts (Wrong 13 (Two is_lower) (codes l)) r.part × (r.next ≡ e)

pub record JudgesLanguages (s : List ℕ) (applicant inventor : rust.Option Range) (titles : ℕ) (r : Found Fault) : Type 0 where
  pub says : (l : Listing ℕ) (e : ℕ) → MaybeIs s (language_in l.applicant) applicant → MaybeIs s (language_in l.inventor) inventor
      → Stands (each (child (spoken (bytes "InventionTitle"))) l.titles) s titles e → Starts totalled (drop e s)
      → Firsts (Wrong 13 (Two is_lower) (languages l)) r.part × (r.next ≡ e)

-- ---- the header

pub record IsHeaded (s : List ℕ) (l : Listing ℕ) (r : Headed) : Type 0 where
  pub fault : Firsts (InHeader l) r.fault
  pub total : IsPart s l.total r.total
  pub end : ℕ
  pub sequences : Stands (each (child sequence) l.sequences) s r.first end
  pub closes : Starts closing (drop end s)

pub record JudgesHeader (s : List ℕ) (r : Headed) : Type 0 where
  pub says : (l : Listing ℕ) → LaidOut l s → IsHeaded s l r
