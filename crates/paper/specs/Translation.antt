-- Translation: from residues and spans to the letters of a protein. Functions of the residues as read.
use Rattle.std.specs.Prelude.{ℕ, suc, ◌+◌, ◌*◌, ◌-◌, ◌%◌, Bool, true, ◌&&◌, cond, List, [], ◌∷◌, ◌++◌, map, reverse, take, drop, get_or, eqb}
use Prim.Native.Char.{code}
use Rattle.paper.specs.Bytes.{bytes, among}
use Rattle.paper.specs.Lists.{gather}
use Rattle.paper.specs.Locations.{Span}

-- ---- residues

-- the plain bases that a letter stands for (002, Annex I, Section 1, Table 1)
abbrev pub bases_of : ℕ → List ℕ
bases_of b =
    cond (eqb b (code "t")) (bytes "t")
    (cond (eqb b (code "c")) (bytes "c")
    (cond (eqb b (code "a")) (bytes "a")
    (cond (eqb b (code "g")) (bytes "g")
    (cond (eqb b (code "m")) (bytes "ac")
    (cond (eqb b (code "r")) (bytes "ag")
    (cond (eqb b (code "w")) (bytes "at")
    (cond (eqb b (code "s")) (bytes "cg")
    (cond (eqb b (code "y")) (bytes "ct")
    (cond (eqb b (code "k")) (bytes "gt")
    (cond (eqb b (code "v")) (bytes "acg")
    (cond (eqb b (code "h")) (bytes "act")
    (cond (eqb b (code "d")) (bytes "agt")
    (cond (eqb b (code "b")) (bytes "cgt")
    (cond (eqb b (code "n")) (bytes "acgt") []))))))))))))))

-- the letter that stands beside b in a list of pairs, b itself where there is none
abbrev pub paired_in : List ℕ → ℕ → ℕ
paired_in [] b = b
paired_in (x ∷ []) b = b
paired_in (x ∷ y ∷ l) b = cond (eqb b x) y (cond (eqb b y) x (paired_in l b))

-- "a/t, c/g, m/k, r/y, v/b, h/d (w, s, n are their own)"
abbrev pub complement_of : ℕ → ℕ
complement_of = paired_in (bytes "atcgmkryvbhd")

-- ---- the coding text

-- residues first to last of a sequence, counted from 1
abbrev pub stretch : List ℕ → ℕ → ℕ → List ℕ
stretch s first last = take (suc last - first) (drop (first - 1) s)

-- "complemented spans read backwards through .."
abbrev pub residues_of : List ℕ → Span → List ℕ
residues_of s x =
    cond (eqb (x.marks % 2) 1) (reverse (map complement_of (stretch s x.first x.last)))
    (stretch s x.first x.last)

-- "concatenate the spans' residues"
abbrev pub coding_text : List ℕ → List Span → List ℕ
coding_text s [] = []
coding_text s (x ∷ l) = residues_of s x ++ coding_text s l

-- ---- codons

-- a genetic code: the letters of its plain codons, "for bases in order t, c, a, g, first base slowest"
abbrev pub Code : Type 0
Code = List ℕ

-- "Code 1"
abbrev pub code1 : Code
code1 = bytes "FFLLSSSSYY**CC*WLLLLPPPPHHQQRRRRIIIMTTTTNNKKSSRRVVVVAAAADDEEGGGG"

abbrev pub index_in : List ℕ → ℕ → ℕ
index_in [] b = 0
index_in (x ∷ l) b = cond (eqb b x) 0 (suc (index_in l b))

-- the place of a plain base in that order
abbrev pub base_index : ℕ → ℕ
base_index = index_in (bytes "tcag")

-- the letter of a plain codon
abbrev pub plain_letter : Code → ℕ → ℕ → ℕ → ℕ
plain_letter g a b c = get_or g (16 * base_index a + 4 * base_index b + base_index c) 0

-- the letters of all plain codons that three base sets allow
abbrev pub plain_letters : Code → List ℕ → List ℕ → List ℕ → List ℕ
plain_letters g x y z = gather (λ (a : ℕ). gather (λ (b : ℕ). map (plain_letter g a b) z) y) x

-- each of these letters is one of those
abbrev pub all_among : List ℕ → List ℕ → Bool
all_among those [] = true
all_among those (x ∷ these) = among those x && all_among those these

-- "the letter all its plain codons share, else `X`"; "an empty set gives `X`"
abbrev pub shared : List ℕ → ℕ
shared [] = code "X"
shared (x ∷ l) = cond (all_among (x ∷ []) l) x (code "X")

-- plain codons that "give exactly" those letters: each of them, and no other
abbrev pub give_exactly : List ℕ → List ℕ → Bool
give_exactly those l = all_among those l && all_among l those

-- "whose plain codons give exactly N and D is `B`, exactly Q and E is `Z`, exactly I and L is `J`; otherwise as before"
abbrev pub most_restrictive : List ℕ → ℕ
most_restrictive l =
    cond (give_exactly (bytes "ND") l) (code "B")
    (cond (give_exactly (bytes "QE") l) (code "Z")
    (cond (give_exactly (bytes "IL") l) (code "J") (shared l)))

-- the letter of a codon, whatever the code
abbrev pub codon_letter : Code → ℕ → ℕ → ℕ → ℕ
codon_letter g a b c = most_restrictive (plain_letters g (bases_of a) (bases_of b) (bases_of c))

-- "take whole codons, ignoring one or two left over"
abbrev pub letters : Code → List ℕ → List ℕ
letters g [] = []
letters g (a ∷ []) = []
letters g (a ∷ b ∷ []) = []
letters g (a ∷ b ∷ c ∷ w) = codon_letter g a b c ∷ letters g w

-- ---- stops

-- "A stop as the last whole codon is dropped"
abbrev pub drop_stop : List ℕ → List ℕ
drop_stop [] = []
drop_stop (x ∷ []) = cond (eqb x (code "*")) [] (x ∷ [])
drop_stop (x ∷ y ∷ l) = x ∷ drop_stop (y ∷ l)

-- "any other stop is 'inside'"
abbrev pub has_stop_inside : List ℕ → Bool
has_stop_inside l = among (drop_stop l) (code "*")

-- ---- the whole: "drop codon_start minus 1 residues"

-- the letters of every whole codon, a last stop too
abbrev pub codons_from : Code → ℕ → List ℕ → List ℕ
codons_from g start coding = letters g (drop (start - 1) coding)
