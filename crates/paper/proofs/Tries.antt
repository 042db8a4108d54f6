-- The definitions tried where a slip would be likely: small theorems that they mean what document 01 says.
use Prim.Native.Nat.{ℕ, ◌+◌, ◌≤◌, ◌<◌}
use Prim.Native.String.{String}
use native.Mathlib.Omega.{arith}
use mathlib.Core.Path.{◌≡◌, refl, sym, ap, ◌∙◌, subst}
use mathlib.Core.Bool.{Bool, true, false, ◌&&◌}
use mathlib.Core.Logic.{inl, inr}
use mathlib.Core.List.{List, [], ◌∷◌, ◌++◌, map, append-nil}
use mathlib.Core.Option.{none, some}
use lib.ListN.{length}
use lib.Dec.{leb}
use Rattle.paper.specs.Bytes.{bytes, raw, all, leading, is_blank}
use Rattle.paper.specs.Lists.{Count, end, has, lacks, gather}
use Rattle.paper.specs.Tree.{Text, Sequence, Listing, mark_text}
use Rattle.paper.specs.Form.{Form, lit, ◌·◌}
use Rattle.paper.specs.Layout.{blanks, leaf, root, doctype, LaidOut}
use Rattle.paper.specs.Locations.{Member, Operator, Location, many, Locates, spans, span_of, breaks25}
use Rattle.paper.specs.Vocabulary.{Row, nucleotide_rows, nucleotide_names, amino_rows, amino_names, is_one_of, counted}
use Rattle.paper.specs.Rules.{L, Skipped, Kind, dna, rna, aa, is_symbol, upper_in, value_read, vocabulary, InResidues, rule_18, rule_19}
use Rattle.paper.specs.Answers.{limit, Checked, Counts, CheckSays, kind_number, page, Prints}
use Rattle.paper.specs.Index.{in_bytes, body_of, contents_of, agree}
use Rattle.std.specs.Prelude.{Ok, Err}
use Rattle.paper.proofs.Accepted.{listing, tree, laid}
use Rattle.paper.proofs.Locate.{locate_sound}
use Rattle.paper.proofs.Texts.{front_empty}
use Rattle.paper.proofs.Leading.{Cut, whole, before, cut, leading_in}

-- a complement of a join or order reverses its members and complements each
reverses : (op : Operator) (a b c : Member)
    → spans (many true op (a ∷ b ∷ c ∷ [])) ≡ span_of true c.piece ∷ span_of true b.piece ∷ span_of true a.piece ∷ []
reverses op a b c = refl

-- L is taken from the text, whatever INSDSeq_length declares
length_of_text : {P : Type 0} (s t : Sequence P) → s.residues.read ≡ t.residues.read → L s ≡ L t
length_of_text s t e = ap length e

-- `<X/>` and `<X></X>` write the same text: both read as empty, each with its own place
abbrev no_text : ℕ → Text ℕ
no_text at = record { place = at; read = [] }

short_spelling : (name : List ℕ) (at : ℕ) → leaf name (no_text at) at ((bytes "<" ++ name) ++ bytes "/>")
short_spelling name at = (bytes "<" ++ name, bytes "/>", refl, refl, ([], bytes "/>", refl, tt, inl ((refl, refl), refl)))

long_spelling : (name : List ℕ) (at : ℕ) → (p : ℕ) × leaf name (no_text p) at ((bytes "<" ++ name) ++ (bytes ">" ++ ((bytes "</" ++ name) ++ bytes ">")))
long_spelling name at =
    let e = bytes "</" ++ name in (
      _,
      (
        bytes "<" ++ name,
        _,
        refl,
        refl,
        ([], _, refl, tt, inr (bytes ">", _, refl, (bytes ">", [], refl, refl, (refl, tt, refl)), (e, bytes ">", refl, (e, [], sym (append-nil e), refl, tt), refl))),
      ),
    )

read_alike : (p q : ℕ) → ◌≡◌ {A = Text (Unit {0})} (mark_text (λ n. tt) (no_text p)) (mark_text (λ n. tt) (no_text q))
read_alike p q = refl

-- an absent value and an empty one differ
absent_or_empty : {P : Type 0} (name : Text P) (p : P)
    → ¬ (value_read (record { name = name; value = none }) ≡ value_read (record { name = name; value = some (record { place = p; read = [] }) }))
absent_or_empty name p e = let z : ◌≡◌ {A = ℕ} 0 1 = cc in omega arith

-- skipped sequences count in the total
total_has_skipped : {P : Type 0} (l : Listing P) {t k f j u n : ℕ} → Counts l t k f j u → Count (λ (s : Sequence P). ¬ Skipped s) l.sequences n → t ≡ k + n
total_has_skipped {P} l c d = c.totals ∙ go l.sequences c.skips d
  where
    go : (l : List (Sequence P)) {k n : ℕ} → Count Skipped l k → Count (λ (s : Sequence P). ¬ Skipped s) l n → length l ≡ k + n
    go [] end end = refl
    go (s ∷ l) (has a c) (has b d) = absurd (b a)
    go (s ∷ l) (has a c) (lacks b d) = omega (arith, go l c d)
    go (s ∷ l) (lacks a c) (has b d) = omega (arith, go l c d)
    go (s ∷ l) (lacks a c) (lacks b d) = absurd (b a)

-- the lines that the program prints
pages : (page (Ok (record { total = 2; skipped = 1; features = 2; judged = 1; unjudged = 0 })) ≡ bytes "verdict accepted\ntotal 2\nskipped 1\nfeatures 2\njudged 1\nunjudged 0\n")
    × (page (Err (record { rule = 2; place = 0 })) ≡ bytes "verdict refused\nrule 2\nplace 0\n")
pages = (refl, refl)

-- a position of thirty digits is read as it stands, and breaks rule 25 in the longest listing
thirty_digits : (t : Location) × Locates t (bytes "100000000000000000000000000012") × (breaks25 16777216 t ≡ true)
thirty_digits = (_, locate_sound _ _ refl, refl)

-- "Blanks are space, tab, CR, LF."
four_blanks : (is_blank 32 ≡ true) × (is_blank 9 ≡ true) × (is_blank 13 ≡ true) × (is_blank 10 ≡ true) × (is_blank 12 ≡ false)
four_blanks = (refl, refl, refl, refl, refl)

-- "16,777,216 bytes is the longest listing.": so many, and no more
longest : (16777216 ≤ limit) × (limit < 16777217)
longest = (omega arith, omega arith)

-- the numbers of the kinds, as the header tells them to the box
kinds : (kind_number dna ≡ 1) × (kind_number rna ≡ 2) × (kind_number aa ≡ 3)
kinds = (refl, refl, refl)

-- "or `verdict refused`, `rule 2`, `place 0` (this is empty input, whole)"
no_front : (F G : Form) (at : ℕ) → (F · G) at [] → F at []
no_front F G at x = subst (F at) (front_empty x.0 x.1 (sym x.2)) x.3

-- how each begins
abbrev first_line : Form
first_line = lit "<?xml version=\"1.0\" encoding=\"UTF-8\"?>"

-- no listing is written as nothing
not_empty : (l : Listing ℕ) → LaidOut l [] → ⊥
not_empty l h = omega (arith, ap length first)
  where
    first : ◌≡◌ {A = List ℕ} [] (bytes "<?xml version=\"1.0\" encoding=\"UTF-8\"?>")
    first =
        no_front first_line blanks 0
        (no_front (first_line · blanks) doctype 0
        (no_front (first_line · blanks · doctype) blanks 0
        (no_front (first_line · blanks · doctype · blanks) (root l) 0 (no_front (first_line · blanks · doctype · blanks · root l) blanks 0 h.is))))

empty_refused : CheckSays [] (Err (record { rule = 2; place = 0 }))
empty_refused =
    Checked.strays {p = 0} (omega arith) (record { stray = not_empty; inside = omega arith; begins = (tree, listing, laid); longest = λ j h b. h })

empty_printed : Prints [] (bytes "verdict refused\nrule 2\nplace 0\n")
empty_printed = Prints.verdict (Err (record { rule = 2; place = 0 })) (omega arith) empty_refused

-- ---- the vocabulary of request 1 of document 02

-- 003's numbers: 5.1 to 5.49, 6.1 to 6.81, 7.1 to 7.39, 8.1 to 8.3
rows_counted : (length nucleotide_rows ≡ 49) × (length nucleotide_names ≡ 81) × (length amino_rows ≡ 39) × (length amino_names ≡ 3)
rows_counted = (refl, refl, refl, refl)

abbrev keys_of : Kind → List (List ℕ)
keys_of k = map (λ (r : Row). r.key) (vocabulary k)

-- what a key of a kind counts as is known, or isn't
abbrev known : Kind → String → Bool
known k key = is_one_of (keys_of k) (counted (upper_in k) (bytes key))

keys_known :
    (known dna "exonn" ≡ false) × (known dna "exon" ≡ true) × (known rna "3'UTR" ≡ true) × (known dna "SITE" ≡ false) × (known aa "SITE" ≡ true)
    × (known aa "SOURCE" ≡ true) × (known aa "source" ≡ true) × (known dna "SOURCE" ≡ false) × (known aa "NOTE" ≡ false)
keys_known = (refl, refl, refl, refl, refl, refl, refl, refl, refl)

-- the older names are others in AA alone
older_counted : (counted true (bytes "NOTE") ≡ bytes "note") × (counted false (bytes "NOTE") ≡ bytes "NOTE") × (counted true (bytes "Note") ≡ bytes "Note")
older_counted = (refl, refl, refl)

-- no known key has more than fifteen characters
abbrev short : List (List ℕ) → Bool
short [] = true
short (w ∷ l) = leb (length w) 15 && short l

keys_short : (short (keys_of dna) ≡ true) × (short (keys_of aa) ≡ true)
keys_short = (refl, refl)

-- ---- rule 18's place, request 2 of document 02

-- "the first offending residue's own byte (of an entity, its `&`)": so many bytes behind the text's place
abbrev behind : Kind → String → ℕ
behind k text = length (raw (leading (is_symbol k) (bytes text)))

foreign_places :
    (behind dna "acgxtn" ≡ 3) × (behind rna "Acgtx" ≡ 0) × (behind dna "acgtu" ≡ 4) × (behind dna "ac&gx" ≡ 2) × (behind dna "&<acgt" ≡ 0)
    × (behind aa "MKcXk" ≡ 2) × (behind aa "MK'C" ≡ 2)
foreign_places = (refl, refl, refl, refl, refl, refl, refl)

-- the residues before p are symbols, and the one that begins there isn't
abbrev Offends : Sequence ℕ → ℕ → Type 0
Offends s p =
    (k : Kind) × (u x : List ℕ) × (b : ℕ)
    × (s.residues.read ≡ u ++ (b ∷ x)) × all (is_symbol k) u × (is_symbol k b ≡ false) × (p ≡ s.residues.place + length (raw u))

foreign_byte : (s : Sequence ℕ) (n p : ℕ) → InResidues s n p → n ≡ 18 → Offends s p
foreign_byte s n p (rule_18 k i h) e = by (cut (is_symbol k) s.residues.read)
  where
    by : Cut (is_symbol k) s.residues.read → Offends s p
    by (whole a q) = absurd (h a)
    by (before b x q o) = (k, leading (is_symbol k) s.residues.read, x, b, q, leading_in (is_symbol k) s.residues.read, o, refl)
foreign_byte s n p (rule_19 k i m c h) e = absurd (omega (arith, e))

-- the index of the listing that is proved to be accepted, number by number: DNA with two features, AA with one, and a skipped sequence
index_tried : contents_of tree ++ gather body_of tree.sequences
    ≡ 3 ∷ 28 ∷ 44 ∷ 72 ∷ 28 ∷ 100 ∷ 12
    ∷ 1 ∷ 1504 ∷ 12 ∷ 719 ∷ 6 ∷ 766 ∷ 5 ∷ 1164 ∷ 3 ∷ 1208 ∷ 40
    ∷ 3 ∷ 2232 ∷ 4 ∷ 1778 ∷ 6 ∷ 1825 ∷ 4
    ∷ 0 ∷ 2455 ∷ 3 ∷ []
index_tried = refl

-- an index differs at its first other byte, or where the shorter one ends
index_differs : (agree (in_bytes (1 ∷ 12 ∷ [])) (in_bytes (1 ∷ 268 ∷ [])) ≡ 5) × (agree (in_bytes (1 ∷ [])) (in_bytes (1 ∷ 12 ∷ [])) ≡ 4) × (agree (in_bytes (1 ∷ [])) [] ≡ 0)
index_differs = (refl, refl, refl)
