-- Names and identifications, each of which may be missing, and the root's attributes, found by their parts.
use Prim.Native.Nat.{ℕ, ◌+◌}
use mathlib.Core.Path.{◌≡◌, refl, ap, ◌∙◌}
use mathlib.Core.Bool.{Bool, true, false}
use mathlib.Core.List.{List, [], ◌∷◌, ◌++◌}
use Rattle.std.specs.Prelude.{Some, None}
use Rattle.std.specs.Prelude as rust
use mathlib.Core.Option.{Option, none, some}
use lib.ListN.{length, drop}
use Rattle.paper.specs.Bytes.{bytes, is_blank}
use Rattle.paper.specs.Form.{Form, ◌·◌, maybe}
use Rattle.paper.specs.Tree.{Spoken, Party, Identification}
use Rattle.paper.specs.Layout.{blanks, tag, attribute, attribute?, content, leaf, spoken, child, child?, holding, identification, party}
use Rattle.read_bytes.specs.Words.{There}
use Rattle.read_steps.specs.Follow.{Not, anything, closing}
use Rattle.read_steps.specs.Texts.{allowed_in, Scanned}
use Rattle.read_steps.proofs.Fronts.{Leads, leads_seq, leads_less, leads_sharp, starts_sharp}
use Rattle.read_tags.proofs.Tags.{spoken_element}
use Rattle.walk_steps.specs.Stands.{tag_of, Ends, Finds, FindsContent, FindsMaybe, FindsLast, FindsAttribute, entering, leaving, FindsAttributeMaybe}
use Rattle.walk_steps.specs.declared.Found.{Found}
use Rattle.walk_steps.specs.declared.Range.{Range}
use Rattle.walk_steps.proofs.Places.{part, from, run_ends}
use Rattle.walk_steps.proofs.Leaves.{starts_at, tag_inside}
use Rattle.walk_steps.proofs.Elements.{Sharp, held, missing_none, there_some, there_tells, tag_starts, tag_leads, leaf_leads}
use Rattle.walk_steps.proofs.Attributes.{attribute_starts}
use Rattle.walk_header.specs.Header.{tag_end, FindsAttributes, FindsSpoken, FindsParty, FindsIdentification, FindsIdentificationMaybe}
use Rattle.walk_header.specs.declared.Filing.{Filing}

-- ---- the root's attributes

abbrev produceds : List (List ℕ)
produceds = bytes "productionDate" ∷ tag_end

abbrev versions : List (List ℕ)
versions = bytes "softwareVersion" ∷ produceds

abbrev softwares : List (List ℕ)
softwares = bytes "softwareName" ∷ versions

pub attributes_found : {s : List ℕ} {at : ℕ} {v : Found Range} {a b c p : Found (rust.Option Range)} → FindsAttribute (bytes "dtdVersion") s at v
    → FindsAttributeMaybe (bytes "fileName") s v.next a → FindsAttributeMaybe (bytes "softwareName") s a.next b
    → FindsAttributeMaybe (bytes "softwareVersion") s b.next c → FindsAttributeMaybe (bytes "productionDate") s c.next p
    → FindsAttributes s at (record { version = v.part; produced = p.part; next = p.next })
attributes_found fv fa fb fc fp l e d fol =
    let D = attribute (bytes "dtdVersion") l.dtd_version in
    let F = attribute? (bytes "fileName") l.file_name in
    let N = attribute? (bytes "softwareName") l.software_name in
    let S = attribute? (bytes "softwareVersion") l.software_version in
    let P = attribute? (bytes "productionDate") l.production_date in
    let k4 = part (D · F · N · S) P d in
    let k3 = part (D · F · N) S k4.1 in
    let k2 = part (D · F) N k3.1 in
    let k1 = part D F k2.1 in
    let sp = attribute_starts (bytes "productionDate") refl tag_end l.production_date k4.2 fol in
    let sv = attribute_starts (bytes "softwareVersion") refl produceds l.software_version k3.2 sp in
    let sn = attribute_starts (bytes "softwareName") refl versions l.software_name k2.2 sv in
    let rv = fv refl l.dtd_version k1.0 k1.1 tt in
    let ra = fa refl softwares refl l.file_name k2.0 (from rv.next k1.2) sn in
    let rb = fb refl versions refl l.software_name k3.0 (from ra.next k2.2) sv in
    let rc = fc refl produceds refl l.software_version k4.0 (from rb.next k3.2) sp in
    let rp = fp refl tag_end refl l.production_date e (from rc.next k4.2) fol in
    record { version = rv.part; produced = rp.part; next = rp.next }

-- ---- a text with its language

pub spoken_leads : (name : List ℕ) (x : Spoken ℕ) → Leads (tag_of name) (child (spoken name) x)
spoken_leads name x = leads_seq (tag_of name) (spoken name x) blanks ((spoken_element name).leads x)

pub spoken_found : {name s : List ℕ} {at a n : ℕ} {x w : Found Range} → Ends (tag name) anything s at a → FindsAttribute (bytes "languageCode") s a x
    → FindsContent name (allowed_in true) at s x.next w → Scanned is_blank s w.next (length s) n
    → FindsSpoken name s at (record { part = x.part; next = n })
spoken_found {name} {at = at} p fa fw c x e d fol =
    let A = attribute (bytes "languageCode") x.language_code in
    let u = part (spoken name x) blanks d in
    let q = u.1 in
    let v = part (tag name · A) (content name (allowed_in true) at x.words) (record { word = q.word; laid = q.laid; size = q.size; here = q.here }) in
    let k = part (tag name) A v.1 in
    let ra = fa refl x.language_code v.0 (from (p.is k.0 k.1 tt) k.2) tt in
    let rc = fw.says (tag_inside k.1) x.words u.0 (from ra.next v.2) tt in
    record { part = ra.part; next = (run_ends is_blank c).is e (from rc.next u.2) fol }

-- ---- a name and its Latin form

pub party_leads : (name latin : List ℕ) (x : Party ℕ) → Leads (tag_of name) (party name latin x)
party_leads name latin x = leads_seq (tag_of name) (child (spoken name) x.name) (child? (leaf latin) x.latin) (spoken_leads name x.name)

module _ {name latin s : List ℕ} {at : ℕ} where
  pub party_absent : {q : Bool} → q ≡ false → There (tag_of name) s at q → FindsParty name latin s at (record { part = None; next = at })
  party_absent h t l b c o e d fol =
      let k = missing_none name (party name latin) (party_leads name latin) (t.no h) o d in
      rw k.0 (record { part = tt; next = k.1 })

  pub party_present : {q : Bool} {x : Found Range} {m : Found (rust.Option Range)} → q ≡ true → There (tag_of name) s at q → FindsSpoken name s at x → FindsMaybe latin s x.next m
      → FindsParty name latin s at (record { part = Some x.part; next = m.next })
  party_present h t fs fm l b c o e d fol =
      let k = there_some name (party name latin) (party_leads name latin) l fol ((there_tells l b.clash t).other h) o d in
      let x = k.0 in
      let u = part (child (spoken name) x.name) (child? (leaf latin) x.latin) k.2 in
      let st = tag_starts latin (child (leaf latin)) (leaf_leads latin) l x.latin u.2 fol in
      let y = fs x.name u.0 u.1 (starts_sharp is_blank (tag_of latin ∷ l) c.sharps (drop u.0 s) st) in
      let z = fm l c x.latin e (from y.next u.2) fol in
      rw k.1 (record { part = y.part; next = z.next })

-- ---- an identification

-- what may be missing, and what follows it, start alike
leads_maybe : {A : Type 0} (k : List ℕ) (F : A → Form) (G : Form) → ((a : A) → Leads k (F a)) → Leads k G → (o : Option A) → Leads k (maybe F o · G)
leads_maybe k F G f g none at w d =
    let y = g (at + length d.0) d.1 d.4 in
    (y.0, d.2 ∙ ap (λ (u : List ℕ). u ++ d.1) d.3 ∙ y.1)
leads_maybe k F G f g (some a) at w d = leads_seq k (F a) G (f a) at w d

module _ (x : Identification ℕ) where
  abbrev O : Form
  O = child? (leaf (bytes "IPOfficeCode")) x.office

  abbrev N : Form
  N = child (leaf (bytes "ApplicationNumberText")) x.number

  abbrev D : Form
  D = child? (leaf (bytes "FilingDate")) x.filed

  children_sharp : Sharp (O · N · D)
  children_sharp at w z c e =
      leads_sharp is_blank (bytes "<") (O · N · D) refl
      (leads_seq (bytes "<") (O · N) D
      (leads_maybe (bytes "<") (child (leaf (bytes "IPOfficeCode"))) N
      (λ t. leads_less (bytes "<") (bytes "IPOfficeCode") (child (leaf (bytes "IPOfficeCode")) t) (leaf_leads (bytes "IPOfficeCode") t))
      (leads_less (bytes "<") (bytes "ApplicationNumberText") N (leaf_leads (bytes "ApplicationNumberText") x.number)) x.office)) at w z c

pub identification_leads : (name : List ℕ) (x : Identification ℕ) → Leads (tag_of name) (child (identification name) x)
identification_leads name x = tag_leads name (holding name (O x · N x · D x))

pub identification_found : {name s : List ℕ} {at a b n : ℕ} {o f : Found (rust.Option Range)} {y : Found Range} → Ends (tag name) anything s at a → Ends entering (Not is_blank) s a b
    → FindsMaybe (bytes "IPOfficeCode") s b o → Finds (child (leaf (bytes "ApplicationNumberText"))) (Not is_blank) s o.next y
    → FindsLast (bytes "FilingDate") s y.next f → Ends (leaving name) (Not is_blank) s f.next n
    → FindsIdentification name s at (record { part = record { office = o.part; filed = f.part }; next = n })
identification_found {name} {s} p i fo fn ff l x e d fol =
    let u = held name (O x · N x · D x) (children_sharp x) p i d in
    let k2 = part (O x · N x) (D x) u.children in
    let k1 = part (O x) (N x) k2.1 in
    let sd = tag_starts (bytes "FilingDate") (child (leaf (bytes "FilingDate"))) (leaf_leads (bytes "FilingDate")) closing x.filed k2.2 u.closes in
    let sn = starts_at (bytes "<ApplicationNumberText") (leaf_leads (bytes "ApplicationNumberText") x.number) k1.2 in
    let ro = fo (bytes "<ApplicationNumberText" ∷ []) (record { clash = refl; sharps = refl }) x.office k1.0 k1.1 sn in
    let rn = fn x.number k2.0 (from ro.next k1.2) (starts_sharp is_blank (bytes "<FilingDate" ∷ closing) refl (drop k2.0 s) sd) in
    let rf = ff (record { clash = refl; sharps = refl }) x.filed u.end (from rn.next k2.2) u.closes in
    record { part = record { office = ro.part; filed = rf.part }; next = l.is e (from rf.next u.leaves) fol }

module _ {name s : List ℕ} {at : ℕ} where
  pub identification_absent : {q : Bool} → q ≡ false → There (tag_of name) s at q
      → FindsIdentificationMaybe name s at (record { part = record { office = None; filed = None }; next = at })
  identification_absent h t l b o e d fol =
      let k = missing_none name (child (identification name)) (identification_leads name) (t.no h) o d in
      rw k.0 (record { part = record { office = tt; filed = tt }; next = k.1 })

  pub identification_present : {q : Bool} {r : Found Filing} → q ≡ true → There (tag_of name) s at q → FindsIdentification name s at r
      → FindsIdentificationMaybe name s at r
  identification_present h t finds l b o e d fol =
      let k = there_some name (child (identification name)) (identification_leads name) l fol ((there_tells l b.clash t).other h) o d in
      rw k.1 (finds k.0 e k.2 (starts_sharp is_blank l b.sharps (drop e s) fol))
