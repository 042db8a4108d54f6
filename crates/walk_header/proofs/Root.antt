-- The heading, what stands before the titles, the first lines and the root: the header found by its parts.
use Prim.Native.Nat.{ℕ, ◌+◌}
use Prim.Native.String.{String}
use native.Mathlib.Omega.{arith}
use mathlib.Core.Path.{◌≡◌, refl, sym, ap, ◌∙◌, subst}
use mathlib.Core.Bool.{Bool, true, false, ◌&&◌, not, and-eq-true_iff}
use mathlib.Core.List.{List, [], ◌∷◌, ◌++◌, append_assoc, append-nil}
use Rattle.std.specs.Prelude as rust
use mathlib.Core.Option.{Option, some}
use lib.ListN.{length, drop}
use lib.Seq.{drop-length}
use lib.Dec.{eqb}
use borrow.Author.Tests.{eqb-true}
use Rattle.paper.specs.Bytes.{bytes, is_blank, all}
use Rattle.paper.specs.Form.{Form, these, lit, run, ◌·◌, maybe, each, each⁺}
use Rattle.paper.specs.Tree.{Text, Party, Heading, reference, application, Listing}
use Rattle.paper.specs.Layout.{blanks, gap, tag, close, leaf, spoken, child, child?, holding, identification, heading, party, sequence, attributes, parties, root, doctype, document, LaidOut}
use Rattle.paper.proofs.Texts.{all_append}
use Rattle.read_steps.specs.Follow.{Not, Starts, anything, skip}
use Rattle.read_steps.specs.Texts.{Scanned}
use Rattle.read_steps.proofs.Fronts.{false_true, Leads, leads_all, leads_seq, leads_less, leads_sharp, skip_blanks, skip_none, gap_blank}
use Rattle.walk_steps.specs.Stands.{Stands, Past, others, tag_of, Ends, FindsMaybe, entering}
use Rattle.walk_steps.specs.declared.Range.{Range}
use Rattle.walk_steps.specs.declared.Found.{Found}
use Rattle.walk_steps.proofs.Places.{part, join, wider, some_each, from}
use Rattle.walk_steps.proofs.Leaves.{starts_at, no_blank}
use Rattle.walk_steps.proofs.Elements.{Sharp, Inside, inside, upto_ends, tag_starts, leaf_leads}
use Rattle.walk_header.specs.Header.{FindsParty, FindsIdentificationMaybe, identified_by, titled, inventing, applying, earlier, FindsHeading, FindsParties, tag_end, FindsAttributes, any_line, Behind, FindsHeader}
use Rattle.walk_header.specs.declared.Filing.{Filing}
use Rattle.walk_header.specs.declared.FoundAttributes.{FoundAttributes}
use Rattle.walk_header.specs.declared.FoundParties.{FoundParties}
use Rattle.walk_header.proofs.Entries.{spoken_leads, party_leads, identification_leads}

-- ---- the heading

abbrev Application : List ℕ
Application = bytes "ApplicationIdentification"

abbrev File : List ℕ
File = bytes "ApplicantFileReference"

abbrev referred_by : Heading ℕ → Option (Text ℕ)
referred_by (reference t) = some t
referred_by (application x t) = t

-- either form is an identification and a reference, each of which may be missing
headed : (h : Heading ℕ) {s : List ℕ} {at e : ℕ} → Stands (heading h) s at e
    → Stands (child? (identification Application) (identified_by h) · child? (leaf File) (referred_by h)) s at e
headed (reference t) {s} {at} d = join {F = lit ""} {G = child (leaf File) t} {b = at} (record { word = []; laid = refl; size = omega arith; here = refl }) d
headed (application x t) d = d

pub heading_found : {s : List ℕ} {at : ℕ} {x : Found Filing} {m : Found (rust.Option Range)} → FindsIdentificationMaybe Application s at x → FindsMaybe File s x.next m
    → FindsHeading s at (record { part = x.part; next = m.next })
heading_found fi fm h e d fol =
    let u = part (child? (identification Application) (identified_by h)) (child? (leaf File) (referred_by h)) (headed h d) in
    let st = tag_starts File (child (leaf File)) (leaf_leads File) earlier (referred_by h) u.2 fol in
    let y = fi (tag_of File ∷ earlier) (record { clash = refl; sharps = refl }) (identified_by h) u.0 u.1 st in
    let z = fm earlier (record { clash = refl; sharps = refl }) (referred_by h) e (from y.next u.2) fol in
    record { part = y.part; next = z.next }

heading_leads : (h : Heading ℕ) → Leads (bytes "<") (heading h)
heading_leads (reference t) = leads_less (bytes "<") File (child (leaf File) t) (leaf_leads File t)
heading_leads (application x t) =
    leads_seq (bytes "<") (child (identification Application) x) (child? (leaf File) t)
    (leads_less (bytes "<") Application (child (identification Application) x) (identification_leads Application x))

-- ---- what stands before the titles

abbrev Earliest : List ℕ
Earliest = bytes "EarliestPriorityApplicationIdentification"

abbrev Applicant : Party ℕ → Form
Applicant = party (bytes "ApplicantName") (bytes "ApplicantNameLatin")

abbrev Inventor : Party ℕ → Form
Inventor = party (bytes "InventorName") (bytes "InventorNameLatin")

pub parties_found : {s : List ℕ} {at : ℕ} {x y : Found Filing} {a i : Found (rust.Option Range)} → FindsHeading s at x → FindsIdentificationMaybe Earliest s x.next y
    → FindsParty (bytes "ApplicantName") (bytes "ApplicantNameLatin") s y.next a
    → FindsParty (bytes "InventorName") (bytes "InventorNameLatin") s a.next i
    → FindsParties s at
    (record { heading = x.part; earliest = y.part; applicant = a.part; inventor = i.part; next = i.next })
parties_found fh fe fa fi l e d fol =
    let H = heading l.heading in
    let P = child? (identification Earliest) l.earliest in
    let A = maybe Applicant l.applicant in
    let I = maybe Inventor l.inventor in
    let k3 = part (H · P · A) I d in
    let k2 = part (H · P) A k3.1 in
    let k1 = part H P k2.1 in
    let si = tag_starts (bytes "InventorName") Inventor (party_leads (bytes "InventorName") (bytes "InventorNameLatin")) titled l.inventor k3.2 fol in
    let sa = tag_starts (bytes "ApplicantName") Applicant (party_leads (bytes "ApplicantName") (bytes "ApplicantNameLatin")) inventing l.applicant k2.2 si in
    let se = tag_starts Earliest (child (identification Earliest)) (identification_leads Earliest) applying l.earliest k1.2 sa in
    let rh = fh l.heading k1.0 k1.1 se in
    let re = fe applying (record { clash = refl; sharps = refl }) l.earliest k2.0 (from rh.next k1.2) sa in
    let ra = fa inventing (record { clash = refl; sharps = refl }) (record { clash = refl; sharps = refl }) l.applicant k3.0 (from re.next k2.2) si in
    let ri = fi titled (record { clash = refl; sharps = refl }) (record { clash = refl; sharps = refl }) l.inventor e (from ra.next k3.2) fol in
    record {
      heading = rh.part;
      earliest = re.part;
      applicant = ra.part;
      inventor = ri.part;
      next = ri.next;
    }

-- ---- the first line and the document type line: no `>` but the last byte

pub line_ends : {s : List ℕ} {at a b r : ℕ} → Scanned (others 62) s at (length s) a → Past s a 1 b → Scanned is_blank s b (length s) r → Ends any_line (Not is_blank) s at r
line_ends c p k = upto_ends (others 62) refl c p k

abbrev free : List ℕ → Bool
free [] = true
free (b ∷ w) = others 62 b && free w

free_all : (w : List ℕ) → free w ≡ true → all (others 62) w
free_all [] h = tt
free_all (b ∷ w) h = let k = (and-eq-true_iff (others 62 b) (free w)).0 h in (k.0, free_all w k.1)

-- the texts of F have none, or one at their end
abbrev Free : Form → Type 0
Free F = (at : ℕ) (w : List ℕ) → F at w → all (others 62) w

abbrev Lined : Form → Type 0
Lined F = (at : ℕ) (w : List ℕ) → F at w → (run (others 62) · lit ">") at w

free_these : (x : List ℕ) → free x ≡ true → Free (these x)
free_these x h at w d = subst (all (others 62)) (sym d) (free_all x h)

free_seq : (F G : Form) → Free F → Free G → Free (F · G)
free_seq F G f g at w d =
    subst (all (others 62)) (sym d.2) (all_append (others 62) d.0 d.1 (f at d.0 d.3) (g (at + length d.0) d.1 d.4))

blank_free : (w : List ℕ) → all is_blank w → all (others 62) w
blank_free [] h = tt
blank_free (b ∷ w) h = (by_byte (eqb b 62) refl, blank_free w h.1)
  where
    by_byte : (t : Bool) → eqb b 62 ≡ t → not t ≡ true
    by_byte true e = absurd (false_true (sym (ap is_blank (eqb-true b 62 e)) ∙ h.0))
    by_byte false e = refl

free_gap : Free gap
free_gap at w d = blank_free w (gap_blank at w d)

lined_these : (x : List ℕ) → free x ≡ true → Lined (these (x ++ bytes ">"))
lined_these x h at w d = (x, bytes ">", d, free_all x h, refl)

lined_after : (F G : Form) → Free F → Lined G → Lined (F · G)
lined_after F G f g at w d =
    let y = g (at + length d.0) d.1 d.4 in
    (d.0 ++ y.0, y.1, d.2 ∙ ap (λ (u : List ℕ). d.0 ++ u) y.2 ∙ sym (append_assoc d.0 y.0 y.1), all_append (others 62) d.0 y.0 (f at d.0 d.3) y.3, y.4)

abbrev First : Form
First = lit "<?xml version=\"1.0\" encoding=\"UTF-8\"?>"

first_lined : Lined First
first_lined = lined_these (bytes "<?xml version=\"1.0\" encoding=\"UTF-8\"?") refl

-- words with gaps between them, the first with a `<`
record Words (F : Form) : Type 0 where
  leads : Leads (bytes "<") F
  has_none : Free F

another : (F : Form) (x : String) → Words F → free (bytes x) ≡ true → Words (F · gap · lit x)
another F x k h =
    record {
      leads = leads_seq (bytes "<") (F · gap) (lit x) (leads_seq (bytes "<") F gap k.leads);
      has_none = free_seq (F · gap) (lit x) (free_seq F gap k.has_none free_gap) (free_these (bytes x) h);
    }

abbrev Named : Form
Named = lit "<!DOCTYPE" · gap · lit "ST26SequenceListing"

abbrev Public : Form
Public = Named · gap · lit "PUBLIC" · gap · lit "\"-//WIPO//DTD Sequence Listing 1.2//EN\""

public_words : Words Public
public_words =
    another (Named · gap · lit "PUBLIC") "\"-//WIPO//DTD Sequence Listing 1.2//EN\""
    (another Named "PUBLIC"
    (another (lit "<!DOCTYPE") "ST26SequenceListing"
    (record { leads = leads_less (bytes "<") (bytes "!DOCTYPE") (lit "<!DOCTYPE") (leads_all (bytes "<!DOCTYPE")); has_none = free_these (bytes "<!DOCTYPE") refl }) refl)
    refl) refl

doctype_lined : Lined doctype
doctype_lined =
    lined_after (Public · gap) (lit "\"ST26SequenceListing_V1_2.dtd\">") (free_seq Public gap public_words.has_none free_gap)
    (lined_these (bytes "\"ST26SequenceListing_V1_2.dtd\"") refl)

doctype_leads : Leads (bytes "<") doctype
doctype_leads = leads_seq (bytes "<") (Public · gap) (lit "\"ST26SequenceListing_V1_2.dtd\">") (leads_seq (bytes "<") Public gap public_words.leads)

lined : (F : Form) → Lined F → {s : List ℕ} {at e : ℕ} → Stands (F · blanks) s at e → Stands any_line s at e
lined F h d = let u = part F blanks d in join (wider h u.1) u.2

-- ---- the root

abbrev Root : List ℕ
Root = bytes "ST26SequenceListing"

some_leads : {A : Type 0} (k : List ℕ) (F : A → Form) → ((a : A) → Leads k (F a)) → (l : List A) → Leads k (each⁺ F l)
some_leads k F h [] at w d = absurd d
some_leads k F h (a ∷ l) at w d = leads_seq k (F a) (each F l) (h a) at w d

-- behind its attributes a start tag ends
holding_starts : (name : List ℕ) (C : Form) {s : List ℕ} {at e : ℕ} → Stands (holding name C) s at e → Starts tag_end (skip (drop at s))
holding_starts name C {s} d =
    let G = lit ">" · blanks · C · close name in
    let l : Leads (bytes ">") G =
    leads_seq (bytes ">") (lit ">" · blanks · C) (close name) (leads_seq (bytes ">") (lit ">" · blanks) C (leads_seq (bytes ">") (lit ">") blanks (leads_all (bytes ">")))) in
    let w = part blanks G d in
    subst (Starts tag_end)
    (sym (ap skip w.1.here ∙ skip_blanks w.1.word (drop w.0 s) w.1.laid ∙ skip_none (drop w.0 s) (no_blank (bytes ">") refl l w.2)))
    (starts_at (bytes ">") l w.2)

module _ (l : Listing ℕ) where
  abbrev T : Form
  T = each⁺ (child (spoken (bytes "InventionTitle"))) l.titles

  abbrev Q : Form
  Q = child (leaf (bytes "SequenceTotalQuantity")) l.total

  abbrev S : Form
  S = each⁺ (child sequence) l.sequences

  abbrev Children : Form
  Children = parties l · T · Q · S

  children_sharp : Sharp Children
  children_sharp at w z c e =
      let H = heading l.heading in
      let P = child? (identification Earliest) l.earliest in
      let A = maybe Applicant l.applicant in
      let I = maybe Inventor l.inventor in
      leads_sharp is_blank (bytes "<") Children refl
      (leads_seq (bytes "<") (parties l · T · Q) S
      (leads_seq (bytes "<") (parties l · T) Q
      (leads_seq (bytes "<") (parties l) T
      (leads_seq (bytes "<") (H · P · A) I (leads_seq (bytes "<") (H · P) A (leads_seq (bytes "<") H P (heading_leads l.heading))))))) at w z c

  root_leads : Leads (tag_of Root) (root l)
  root_leads = leads_seq (tag_of Root) (tag Root · attributes l) (holding Root Children) (leads_seq (tag_of Root) (tag Root) (attributes l) (leads_all (tag_of Root)))

-- a listing stands from the first byte to the last, and its root behind the two lines
root_at : (l : Listing ℕ) {s : List ℕ} {a b : ℕ} → LaidOut l s → Ends any_line (Not is_blank) s 0 a → Ends any_line (Not is_blank) s a b
    → (m : ℕ) × Stands (root l) s b m × Stands blanks s m (length s)
root_at l {s} laid p q =
    let d : Stands (document l) s 0 (length s) =
    record { word = s; laid = laid.is; size = omega arith; here = sym (ap (λ (u : List ℕ). s ++ u) (drop-length s) ∙ append-nil s) } in
    let k4 = part (First · blanks · doctype · blanks · root l) blanks d in
    let k3 = part (First · blanks · doctype · blanks) (root l) k4.1 in
    let k2 = part (First · blanks · doctype) blanks k3.1 in
    let k1 = part (First · blanks) doctype k2.1 in
    let ea = p.is k1.0 (lined First first_lined k1.1) (no_blank (bytes "<") refl doctype_leads k1.2) in
    let eb = q.is k3.0 (from ea (lined doctype doctype_lined (join k1.2 k2.2))) (no_blank (tag_of Root) refl (root_leads l) k3.2) in
    (k4.0, from eb k3.2, k4.2)

-- the children in two: what stands before the titles, and what stands behind
record Split (l : Listing ℕ) (s : List ℕ) (at : ℕ) : Type 0 where
  end : ℕ
  before : Stands (parties l) s at end
  follows : Starts titled (drop end s)
  behind : Behind s l end

split_children : (l : Listing ℕ) {s : List ℕ} {at e : ℕ} → Inside Root (Children l) s at e → Split l s at
split_children l o =
    let title = child (spoken (bytes "InventionTitle")) in
    let k3 = part (parties l · T l · Q l) (S l) o.children in
    let k2 = part (parties l · T l) (Q l) k3.1 in
    let k1 = part (parties l) (T l) k2.1 in
    record {
      end = k1.0;
      before = k1.1;
      follows = starts_at (bytes "<InventionTitle") (some_leads (bytes "<InventionTitle") title (spoken_leads (bytes "InventionTitle")) l.titles) k1.2;
      behind =
          record {
            stop = k2.0;
            titles = wider (some_each title l.titles) k1.2;
            next = k3.0;
            total = k2.2;
            end = o.end;
            sequences = wider (some_each (child sequence) l.sequences) k3.2;
            closes = o.closes;
          };
    }

pub header_found : {s : List ℕ} {a b c e : ℕ} {x : FoundAttributes} {y : FoundParties} → Ends any_line (Not is_blank) s 0 a → Ends any_line (Not is_blank) s a b
    → Ends (tag Root) anything s b c → FindsAttributes s c x → Ends entering (Not is_blank) s x.next e → FindsParties s e y
    → FindsHeader s
    (record {
      version = x.version;
      produced = x.produced;
      heading = y.heading;
      earliest = y.earliest;
      applicant = y.applicant;
      inventor = y.inventor;
      titles = y.next;
    })
header_found {s} p q t fa i fp l laid =
    let d = root_at l laid p q in
    let k2 = part (tag Root · attributes l) (holding Root (Children l)) d.1 in
    let k1 = part (tag Root) (attributes l) k2.1 in
    let f = fa l k2.0 (from (t.is k1.0 k1.1 tt) k1.2) (holding_starts Root (Children l) k2.2) in
    let o = split_children l (inside Root (Children l) (children_sharp l) i (from f.next k2.2) d.2) in
    let g = fp l o.end o.before o.follows in
    record {
      version = f.version;
      produced = f.produced;
      heading = g.heading;
      earliest = g.earliest;
      applicant = g.applicant;
      inventor = g.inventor;
      behind = subst (Behind s l) (sym g.next) o.behind;
    }
