-- SequenceData, the root with its attributes and what stands before the titles, from the readings of their parts.
use Prim.Native.Nat.{ℕ}
use mathlib.Core.Path.{◌≡◌, refl}
use mathlib.Core.Logic.{inl, inr}
use mathlib.Core.Option.{Option}
use mathlib.Core.List.{List, [], ◌∷◌, ◌++◌}
use Rattle.paper.specs.Bytes.{bytes, is_blank}
use Rattle.paper.specs.Form.{Form, ◌·◌, ◌∪◌, maybe}
use Rattle.paper.specs.Tree.{Text, Spoken, Party, Identification, Heading, reference, application, Sequence}
use Rattle.paper.specs.Layout.{tag, attribute, leaf, spoken, child, child?, holding, identification, heading, party, sequence}
use Rattle.paper.proofs.Forms.{ev_these, Evers, evs_both, evs_after}
use Rattle.read_steps.specs.Reads.{Step, going, stuck, Reads, Passes, Tried, stayed}
use Rattle.read_steps.specs.Follow.{Not, Starts, StandsBefore, anything, closing}
use Rattle.read_steps.proofs.Steps.{as_reads, seq, pass_then, either_first, either_second, tried, failed_at, step_is, step_to}
use Rattle.read_steps.proofs.Fronts.{Leads, leads_seq, leads_all, leads_starts, starts_wider}
use Rattle.read_tags.proofs.Tags.{Element, leaf_element, spoken_element, holding_reads, ev_holding, child_leads, child_ever, child_reads, sole_attribute, sole_holding, optional_reads, ev_attribute, apart_leads}
use Rattle.read_steps.proofs.Soles.{sure_these, sole_seq, sole_after, sole_as, sole_of, sole_or}
use Rattle.read_layout.specs.Parts.{Enters, Leaves, MaybeParty, Held, numbered, held, Parties, introduced, titled, earlier}
use Rattle.read_layout.proofs.Runs.{Run, run_one, run_maybe, run_seq, run_reads, one_reads, run_children, run_optional, optional_run_reads, tried_on, whole_element, whole_reads}
use Rattle.read_layout.proofs.Elements.{element_as, child_as, held_element}

-- ---- SequenceData

held_run : Run (child held) (bytes "<INSDSeq" ∷ []) closing
held_run = run_one held_element closing refl

abbrev SequenceHead : Text ℕ → Form
SequenceHead n = tag (bytes "SequenceData") · attribute (bytes "sequenceIDNumber") n

abbrev SequenceRest : Held → Form
SequenceRest h = holding (bytes "SequenceData") (child held h)

abbrev of_sequence : Sequence ℕ → Held
of_sequence s =
    record { declared = s.declared; moltype = s.moltype; division = s.division; other_ids = s.other_ids; table = s.table; residues = s.residues }

ev_rest : Evers SequenceRest
ev_rest = ev_holding (bytes "SequenceData") (run_children held_run refl)

pub sequence_element : Element sequence (bytes "SequenceData")
sequence_element =
    record {
      leads = λ s. leads_seq (bytes "<SequenceData") (SequenceHead s.number) (SequenceRest (of_sequence s)) (leads_seq (bytes "<SequenceData") (tag (bytes "SequenceData")) (attribute (bytes "sequenceIDNumber") s.number) (leads_all (bytes "<SequenceData")));
      ever =
          λ at.
          let v = evs_both SequenceHead SequenceRest (evs_after (tag (bytes "SequenceData")) (attribute (bytes "sequenceIDNumber")) (ev_these (bytes "<SequenceData")) (ev_attribute (bytes "sequenceIDNumber"))) ev_rest at in
          (numbered v.0.0 v.0.1, v.1, v.2);
      sole =
          sole_as (λ (p : Text ℕ × Held). SequenceHead p.0 · SequenceRest p.1) sequence anything (λ p at. numbered p.0 p.1)
          (λ s. (s.number, of_sequence s)) (λ s at w d. (d, refl))
          (sole_seq SequenceHead SequenceRest anything anything (λ h at w z d g. tt)
          (sole_after (attribute (bytes "sequenceIDNumber")) (tag (bytes "SequenceData")) anything anything (λ t at w z l g. tt)
          (sure_these (bytes "<SequenceData") anything) (sole_attribute (bytes "sequenceIDNumber") refl))
          (sole_holding (bytes "SequenceData") (run_children held_run refl)));
    }

module _ {s : List ℕ} where
  pub sequence_reads : {x a b c d r : Step} → Passes (tag (bytes "SequenceData")) anything s x a → Reads (attribute (bytes "sequenceIDNumber")) anything s a b
      → Enters s b c → Reads (child held) (Not is_blank) s c d → Leaves (bytes "SequenceData") s d r → Reads (child sequence) (Not is_blank) s x r
  sequence_reads t n i h l =
      child_as {L = λ (p : Text ℕ × Held). SequenceHead p.0 · SequenceRest p.1} (λ p. numbered p.0 p.1)
      (λ s. (s.number, of_sequence s))
      (λ p at w d. d) (λ s at w d. d) (λ s. refl)
      (child_reads (seq {L = SequenceHead} {M = SequenceRest} (λ h at w z d g. tt) ev_rest
      (pass_then {M = attribute (bytes "sequenceIDNumber")} (λ n at w z d g. tt) (ev_attribute (bytes "sequenceIDNumber")) t n)
      (holding_reads (bytes "SequenceData") (run_children held_run refl) i.before i.opens i.after (one_reads closing refl h) l.closes)) l.after)

-- ---- identifications

office_next : StandsBefore (bytes "IPOfficeCode") (bytes "<ApplicationNumberText" ∷ [])
office_next = record { clash = refl; sharps = refl }

filed_last : StandsBefore (bytes "FilingDate") closing
filed_last = record { clash = refl; sharps = refl }

office_run : Run (child? (leaf (bytes "IPOfficeCode"))) (bytes "<IPOfficeCode" ∷ bytes "<ApplicationNumberText" ∷ []) (bytes "<ApplicationNumberText" ∷ [])
office_run = run_maybe (leaf_element (bytes "IPOfficeCode")) _ office_next

number_run : Run (child (leaf (bytes "ApplicationNumberText"))) (bytes "<ApplicationNumberText" ∷ []) (bytes "<FilingDate" ∷ closing)
number_run = run_one (leaf_element (bytes "ApplicationNumberText")) _ refl

filed_run : Run (child? (leaf (bytes "FilingDate"))) (bytes "<FilingDate" ∷ closing) closing
filed_run = run_maybe (leaf_element (bytes "FilingDate")) closing filed_last

abbrev to_identification : (Option (Text ℕ) × Text ℕ) × Option (Text ℕ) → Identification ℕ
to_identification p = record { office = p.0.0; number = p.0.1; filed = p.1 }

abbrev of_identification : Identification ℕ → (Option (Text ℕ) × Text ℕ) × Option (Text ℕ)
of_identification x = ((x.office, x.number), x.filed)

module _ (name : List ℕ) where
  pub identification_element : Element (identification name) name
  identification_element =
      element_as to_identification of_identification (λ p at w d. d) (λ x at w d. d) (λ x. refl)
      (whole_element name (run_seq (run_seq office_run number_run) filed_run) refl)

  pub identification_reads : {s : List ℕ} {x a b c d e r : Step} → Passes (tag name) anything s x a → Enters s a b
      → Tried (child (leaf (bytes "IPOfficeCode"))) (Not is_blank) s b c → Reads (child (leaf (bytes "ApplicationNumberText"))) (Not is_blank) s c d
      → Tried (child (leaf (bytes "FilingDate"))) (Not is_blank) s d e → Leaves name s e r → Reads (child (identification name)) (Not is_blank) s x r
  identification_reads t i o n f l =
      child_as to_identification of_identification (λ p at w d. d) (λ x at w d. d) (λ x. refl)
      (whole_reads name (run_seq (run_seq office_run number_run) filed_run) refl t i
      (run_reads (run_seq office_run number_run) filed_run
      (run_reads office_run number_run (optional_reads (leaf_element (bytes "IPOfficeCode")) _ office_next o) (one_reads _ refl n))
      (optional_reads (leaf_element (bytes "FilingDate")) closing filed_last f)) l)

-- ---- names

module _ (name latin : List ℕ) where
  party_leads : (x : Party ℕ) → Leads (bytes "<" ++ name) (party name latin x)
  party_leads x = leads_seq (bytes "<" ++ name) (child (spoken name) x.name) (child? (leaf latin) x.latin) (child_leads (spoken_element name) x.name)

  module _ (l : List (List ℕ)) (b : StandsBefore name l) (c : StandsBefore latin l) where
    abbrev latins : List (List ℕ)
    latins = (bytes "<" ++ latin) ∷ l

    abbrev Both : Spoken ℕ × Option (Text ℕ) → Form
    Both p = child (spoken name) p.0 · child? (leaf latin) p.1

    both_run : Run Both ((bytes "<" ++ name) ∷ []) l
    both_run = run_seq (run_one (spoken_element name) latins c.sharps) (run_maybe (leaf_element latin) l c)

    pub party_run : Run (maybe (party name latin)) ((bytes "<" ++ name) ∷ l) l
    party_run =
        run_optional (party name latin) (bytes "<" ++ name) party_leads l b.clash
        (sole_as Both (party name latin) (Starts l) (λ p at. record { name = p.0; latin = p.1 }) (λ x. (x.name, x.latin)) (λ x at w d. (d, refl)) both_run.sole)

    both_reads : {s : List ℕ} {x y r : Step} → Reads (child (spoken name)) (Not is_blank) s x y → Reads (child? (leaf latin)) (Starts l) s y r
        → Reads (party name latin) (Starts l) s x r
    both_reads p q =
        as_reads {L = Both} {M = party name latin}
        (λ p at w. record { name = p.0; latin = p.1 }) (λ p at w d. d) (λ x at w d. ((x.name, x.latin), d, refl))
        (run_reads (run_one (spoken_element name) latins c.sharps) (run_maybe (leaf_element latin) l c) (one_reads latins c.sharps p) q)

    party_as : {s : List ℕ} {at far : ℕ} {x y r : Step} → x ≡ going at far → Reads (party name latin) (Starts l) s (going at far) y → r ≡ stayed at y
        → Reads (maybe (party name latin)) (Starts l) s x r
    party_as e p h = optional_run_reads (party name latin) (bytes "<" ++ name) party_leads l b.clash (tried e p h)

  pub party_reads : {s : List ℕ} {at far n f : ℕ} {x r : Step} → x ≡ going at far → Reads (child (spoken name)) (Not is_blank) s (going at far) (going n f)
      → Tried (child (leaf latin)) (Not is_blank) s (going n f) r → MaybeParty name latin s x r
  party_reads e p q l b c =
      let k = tried_on q in
      party_as l b c e (step_is (both_reads l b c p (optional_reads (leaf_element latin) l c q)) k.1) k.1

  pub party_missing : {s : List ℕ} {at far k : ℕ} {x : Step} → x ≡ going at far → Reads (child (spoken name)) (Not is_blank) s (going at far) (stuck k)
      → MaybeParty name latin s x (going at k)
  party_missing e p l b c = party_as l b c e (both_reads l b c p (failed_at refl)) refl

-- ---- what stands before the titles

abbrev pub inventing : List (List ℕ)
inventing = bytes "<InventorName" ∷ titled

abbrev pub applying : List (List ℕ)
applying = bytes "<ApplicantName" ∷ inventing

abbrev pub File : List ℕ
File = bytes "ApplicantFileReference"

abbrev pub Application : List ℕ
Application = bytes "ApplicationIdentification"

file_next : StandsBefore File earlier
file_next = record { clash = refl; sharps = refl }

abbrev Applied : Heading ℕ → Form
Applied (reference t) at w = ⊥
Applied (application x t) at w = (child (identification Application) x · child? (leaf File) t) at w

abbrev Referred : Heading ℕ → Form
Referred (reference t) at w = child (leaf File) t at w
Referred (application x t) at w = ⊥

applied_leads : (h : Heading ℕ) → Leads (bytes "<ApplicationIdentification") (Applied h)
applied_leads (reference t) at w d = absurd d
applied_leads (application x t) at w d =
    leads_seq (bytes "<ApplicationIdentification") (child (identification Application) x) (child? (leaf File) t)
    (child_leads (identification_element Application) x) at w d

referred_leads : (h : Heading ℕ) → Leads (bytes "<ApplicantFileReference") (Referred h)
referred_leads (reference t) at w d = child_leads (leaf_element File) t at w d
referred_leads (application x t) at w d = absurd d

headed : (h : Heading ℕ) (at : ℕ) (w : List ℕ) → (Applied h ∪ Referred h) at w → heading h at w
headed (reference t) at w (inl d) = absurd d
headed (reference t) at w (inr d) = d
headed (application x t) at w (inl d) = d
headed (application x t) at w (inr d) = absurd d

unheaded : (h : Heading ℕ) (at : ℕ) (w : List ℕ) → heading h at w → (Applied h ∪ Referred h) at w
unheaded (reference t) at w d = inr d
unheaded (application x t) at w d = inl d

heading_as : {s : List ℕ} {x r : Step} → Reads (λ (h : Heading ℕ). Applied h ∪ Referred h) (Starts earlier) s x r → Reads heading (Starts earlier) s x r
heading_as e = as_reads {M = heading} (λ h at w. h) headed (λ h at w d. (h, unheaded h at w d, refl)) e

two_headings : (a b : Heading ℕ) (at : ℕ) (w x z y : List ℕ) → Applied a at w → Referred b at x → Starts earlier z → x ++ z ≡ w ++ y → ⊥
two_headings a b at w x z y l m f e =
    apart_leads Applied Referred (bytes "<ApplicationIdentification") (bytes "<ApplicantFileReference") applied_leads referred_leads refl a b at w x z y l m tt e

abbrev AppliedParts : Identification ℕ × Option (Text ℕ) → Form
AppliedParts p = child (identification Application) p.0 · child? (leaf File) p.1

identified_run : Run (child (identification Application)) (bytes "<ApplicationIdentification" ∷ []) (bytes "<ApplicantFileReference" ∷ earlier)
identified_run = run_one (identification_element Application) _ refl

file_run : Run (child? (leaf File)) (bytes "<ApplicantFileReference" ∷ earlier) earlier
file_run = run_maybe (leaf_element File) earlier file_next

applied_back : (h : Heading ℕ) (at : ℕ) (w : List ℕ) → Applied h at w → (p : Identification ℕ × Option (Text ℕ)) × AppliedParts p at w × (h ≡ application p.0 p.1)
applied_back (reference t) at w d = absurd d
applied_back (application x t) at w d = ((x, t), d, refl)

referred_back : (h : Heading ℕ) (at : ℕ) (w : List ℕ) → Referred h at w → (t : Text ℕ) × child (leaf File) t at w × (h ≡ reference t)
referred_back (reference t) at w d = (t, d, refl)
referred_back (application x t) at w d = absurd d

applied_reads : {s : List ℕ} {x y r : Step} → Reads (child (identification Application)) (Not is_blank) s x y → Reads (child? (leaf File)) (Starts earlier) s y r
    → Reads Applied (Starts earlier) s x r
applied_reads p q =
    as_reads {L = AppliedParts} {M = Applied} (λ p at w. application p.0 p.1) (λ p at w d. d) applied_back
    (run_reads identified_run file_run (one_reads _ refl p) q)

referred_reads : {s : List ℕ} {x r : Step} → Reads (child (leaf File)) (Not is_blank) s x r → Reads Referred (Starts earlier) s x r
referred_reads p = as_reads {L = child (leaf File)} {M = Referred} (λ t at w. reference t) (λ t at w d. d) referred_back (one_reads earlier refl p)

module _ {s : List ℕ} {at far : ℕ} where
  pub heading_applied : {n f : ℕ} {r : Step} → Reads (child (identification Application)) (Not is_blank) s (going at far) (going n f)
      → Tried (child (leaf File)) (Not is_blank) s (going n f) r → Reads heading (Starts earlier) s (going at far) r
  heading_applied p q =
      let k = tried_on q in
      step_to k.1 (heading_as (either_first two_headings (step_is (applied_reads p (optional_reads (leaf_element File) earlier file_next q)) k.1)))

  pub heading_referred : {k : ℕ} {r : Step} → Reads (child (identification Application)) (Not is_blank) s (going at far) (stuck k)
      → Reads (child (leaf File)) (Not is_blank) s (going at k) r → Reads heading (Starts earlier) s (going at far) r
  heading_referred p q = heading_as (either_second two_headings (applied_reads p (failed_at refl)) (referred_reads q))

heading_run : Run heading (bytes "<ApplicationIdentification" ∷ bytes "<ApplicantFileReference" ∷ []) earlier
heading_run =
    record {
      starts = λ h at w z d n. go h at w z (unheaded h at w d);
      ever = λ at. let v = child_ever (leaf_element File) at in (reference v.0, v.1, v.2);
      sole =
          λ a b at w x z y p q f g e.
          sole_or Applied Referred (Starts earlier) two_headings
          (sole_of AppliedParts Applied (Starts earlier) (λ p. application p.0 p.1) applied_back (run_seq identified_run file_run).sole)
          (sole_of (child (leaf File)) Referred (Starts earlier) reference referred_back (run_one (leaf_element File) earlier refl).sole)
          a b at w x z y (unheaded a at w p) (unheaded b at x q) f g e;
    }
  where
    go : (h : Heading ℕ) (at : ℕ) (w z : List ℕ) → (Applied h ∪ Referred h) at w → Starts (bytes "<ApplicationIdentification" ∷ bytes "<ApplicantFileReference" ∷ []) (w ++ z)
    go h at w z (inl d) = starts_wider _ (bytes "<ApplicationIdentification" ∷ []) refl (w ++ z) (leads_starts (bytes "<ApplicationIdentification") (Applied h) (applied_leads h) at w z d)
    go h at w z (inr d) = starts_wider _ (bytes "<ApplicantFileReference" ∷ []) refl (w ++ z) (leads_starts (bytes "<ApplicantFileReference") (Referred h) (referred_leads h) at w z d)

earliest_next : StandsBefore (bytes "EarliestPriorityApplicationIdentification") applying
earliest_next = record { clash = refl; sharps = refl }

earliest_run : Run (child? (identification (bytes "EarliestPriorityApplicationIdentification"))) earlier applying
earliest_run = run_maybe (identification_element (bytes "EarliestPriorityApplicationIdentification")) applying earliest_next

applicant_next : StandsBefore (bytes "ApplicantName") inventing
applicant_next = record { clash = refl; sharps = refl }

applicant_latin : StandsBefore (bytes "ApplicantNameLatin") inventing
applicant_latin = record { clash = refl; sharps = refl }

inventor_next : StandsBefore (bytes "InventorName") titled
inventor_next = record { clash = refl; sharps = refl }

inventor_latin : StandsBefore (bytes "InventorNameLatin") titled
inventor_latin = record { clash = refl; sharps = refl }

applicant_run : Run (maybe (party (bytes "ApplicantName") (bytes "ApplicantNameLatin"))) applying inventing
applicant_run = party_run (bytes "ApplicantName") (bytes "ApplicantNameLatin") inventing applicant_next applicant_latin

inventor_run : Run (maybe (party (bytes "InventorName") (bytes "InventorNameLatin"))) inventing titled
inventor_run = party_run (bytes "InventorName") (bytes "InventorNameLatin") titled inventor_next inventor_latin

abbrev pub PartiesParts : ((Heading ℕ × Option (Identification ℕ)) × Option (Party ℕ)) × Option (Party ℕ) → Form
PartiesParts p =
    heading p.0.0.0
    · child? (identification (bytes "EarliestPriorityApplicationIdentification")) p.0.0.1
    · maybe (party (bytes "ApplicantName") (bytes "ApplicantNameLatin")) p.0.1
    · maybe (party (bytes "InventorName") (bytes "InventorNameLatin")) p.1

abbrev pub to_parties : ((Heading ℕ × Option (Identification ℕ)) × Option (Party ℕ)) × Option (Party ℕ) → Parties
to_parties p = record { heading = p.0.0.0; earliest = p.0.0.1; applicant = p.0.1; inventor = p.1 }

earliest_runs : Run (λ (p : Heading ℕ × Option (Identification ℕ)). heading p.0 · child? (identification (bytes "EarliestPriorityApplicationIdentification")) p.1) (bytes "<ApplicationIdentification" ∷ bytes "<ApplicantFileReference" ∷ []) applying
earliest_runs = run_seq heading_run earliest_run

pub parties_run : Run PartiesParts (bytes "<ApplicationIdentification" ∷ bytes "<ApplicantFileReference" ∷ []) titled
parties_run = run_seq (run_seq earliest_runs applicant_run) inventor_run

module _ {s : List ℕ} where
  pub parties_reads : {x a b c r : Step} → Reads heading (Starts earlier) s x a
      → Tried (child (identification (bytes "EarliestPriorityApplicationIdentification"))) (Not is_blank) s a b
      → MaybeParty (bytes "ApplicantName") (bytes "ApplicantNameLatin") s b c → MaybeParty (bytes "InventorName") (bytes "InventorNameLatin") s c r
      → Reads introduced (Starts titled) s x r
  parties_reads h e p q =
      as_reads {L = PartiesParts} {M = introduced} (λ p at w. to_parties p) (λ p at w d. d)
      (λ x at w d. ((((x.heading, x.earliest), x.applicant), x.inventor), d, refl))
      (run_reads (run_seq earliest_runs applicant_run) inventor_run
      (run_reads earliest_runs applicant_run
      (run_reads heading_run earliest_run h (optional_reads (identification_element (bytes "EarliestPriorityApplicationIdentification")) applying earliest_next e))
      (p inventing applicant_next applicant_latin)) (q titled inventor_next inventor_latin))
