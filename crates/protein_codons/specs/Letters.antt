-- The letters of a coding text, and codons that are no stop: what those above promise of.
use Rattle.std.specs.Prelude.{ℕ, ◌+◌, ◌*◌, ◌≤◌, ◌<◌, ◌≡◌, List, get_or}
use Prim.Native.Char.{code}
use Rattle.paper.specs.Locations.{Location, spans}
use Rattle.paper.specs.Translation.{Code, coding_text, codons_from}
use Rattle.protein_code.specs.Tables.{code_of}
use Rattle.protein_codons.specs.Reading.{span_letters}
use Rattle.protein_codons.specs.declared.WholeCodons.{WholeCodons}

-- the letters of every whole codon, a last stop too
abbrev pub letters_of : Code → List ℕ → ℕ → Location → List ℕ
letters_of gc s start t = codons_from gc start (coding_text s (spans t))

-- ---- the codons that stand whole in a span between two places, with the letters l

-- their letters
abbrev pub letters_in : WholeCodons → List ℕ
letters_in x = span_letters (code_of x.code.now) x.r.now x.span.low x.span.high x.span.turned

-- none of those from a to before b is a stop
pub record NoStops (l : List ℕ) (a b : ℕ) : Type 0 where
  pub none : (k : ℕ) → k < b → a ≤ k → get_or l k 0 ≡ code "*" → ⊥

-- the first n are no stop
pub record Clear (low high : ℕ) (l : List ℕ) (n : ℕ) : Type 0 where
  pub within : low + 3 * n ≤ high
  pub clear : NoStops l 0 n
