-- Bytes, classes of bytes, and how a text is written. What is said of a text is said of it as read.
use Rattle.std.specs.Prelude.{ℕ, ◌≡◌, Bool, true, false, ◌&&◌, ◌||◌, cond, List, [], ◌∷◌, ◌++◌, leb, eqb}
use Prim.Native.Char.{code}
use Prim.Native.String.{String, [] as end, ◌∷◌ as ◌then◌}

-- a quoted text as bytes
abbrev pub bytes : String → List ℕ
bytes end = []
bytes (◌then◌ c s) = code c ∷ bytes s

-- two texts are one
abbrev pub same : List ℕ → List ℕ → Bool
same [] [] = true
same [] (b ∷ w) = false
same (a ∷ v) [] = false
same (a ∷ v) (b ∷ w) = eqb a b && same v w

-- b is one of these
abbrev pub among : List ℕ → ℕ → Bool
among [] b = false
among (a ∷ l) b = eqb b a || among l b

-- every byte is of the class
abbrev pub all : (ℕ → Bool) → List ℕ → Type 0
all f [] = Unit {0}
all f (b ∷ w) = (f b ≡ true) × all f w

-- what stands before the first byte outside the class; all of it, if none is outside
abbrev pub leading : (ℕ → Bool) → List ℕ → List ℕ
leading f [] = []
leading f (b ∷ w) = cond (f b) (b ∷ leading f w) []

-- "Blanks are space, tab, CR, LF."
abbrev pub is_blank : ℕ → Bool
is_blank = among (bytes " \t\r\n")

-- "Text and attribute values are bytes 32 to 126 .."
abbrev pub is_printed : ℕ → Bool
is_printed b = leb 32 b && leb b 126

-- ".. may also hold bytes 128 to 255, taken as they stand (house)."
abbrev pub is_printed_or_high : ℕ → Bool
is_printed_or_high b = is_printed b || (leb 128 b && leb b 255)

-- ".. except `<`, `>`, `&`, `"`, `'`, which are written `&lt;` `&gt;` `&amp;` `&quot;` `&apos;`": one character as it is written
abbrev pub spell : ℕ → List ℕ
spell b =
    cond (eqb b (code "<")) (bytes "&lt;")
    (cond (eqb b (code ">")) (bytes "&gt;")
    (cond (eqb b (code "&")) (bytes "&amp;")
    (cond (eqb b (code "\"")) (bytes "&quot;")
    (cond (eqb b (code "'")) (bytes "&apos;") (b ∷ [])))))

-- a text as it is written, "the raw stretch"
abbrev pub raw : List ℕ → List ℕ
raw [] = []
raw (b ∷ w) = spell b ++ raw w
