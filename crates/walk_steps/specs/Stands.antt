-- Texts that are known to stand in a listing: what is promised of a walk along them.
use Rattle.std.specs.Prelude.{◌≡◌, ℕ, ◌+◌, ◌<◌, ◌≤◌, Bool, true, false, not, List, ◌++◌, length, drop, ◌==◌, slice_index, Some, None}
use Rattle.std.specs.Prelude as rust
use Rattle.std.proofs.Math.Option.{Option, none, some}
use Rattle.paper.specs.Bytes.{bytes, raw, is_blank}
use Rattle.paper.specs.Form.{Form, lit, ◌·◌, maybe}
use Rattle.paper.specs.Tree.{Text}
use Rattle.paper.specs.Layout.{blanks, tag, close, attribute, content, leaf, child, attribute?}
use Rattle.read_bytes.specs.Words.{StandsAt}
use Rattle.read_steps.specs.Follow.{Starts, StandsBefore, NoBlankFirst, anything, clashes, sharp, closing, skip}
use Rattle.read_steps.specs.Texts.{Scanned}
use Rattle.walk_steps.specs.declared.Range.{Range}
use Rattle.walk_steps.specs.declared.Found.{Found}
use Rattle.walk_steps.specs.declared.Opened.{Opened}

-- from `at` to `next` stands a text of the form F
pub record Stands (F : Form) (s : List ℕ) (at next : ℕ) : Type 0 where
  pub word : List ℕ
  pub laid : F at word
  pub size : next ≡ at + length word
  pub here : drop at s ≡ word ++ drop next s

-- ---- bytes

-- r is n bytes further
pub record Past (s : List ℕ) (at n r : ℕ) : Type 0 where
  pub is : n ≤ length (drop at s) → r ≡ at + n

-- every byte but this one
abbrev pub others : ℕ → ℕ → Bool
others stop b = not (b == stop)

-- ---- forms

-- whatever of the form F stands here, before what may follow, ends at r
pub record Ends (F : Form) (Fol : List ℕ → Type 0) (s : List ℕ) (at r : ℕ) : Type 0 where
  pub is : (e : ℕ) → Stands F s at e → Fol (drop e s) → r ≡ e

-- whatever F x stands here ends at r
pub record Over {A : Type 0} (F : A → Form) (Fol : List ℕ → Type 0) (s : List ℕ) (at r : ℕ) : Type 0 where
  pub is : (x : A) (e : ℕ) → Stands (F x) s at e → Fol (drop e s) → r ≡ e

-- the part is where the text x is written
pub record IsPart (s : List ℕ) (x : Text ℕ) (p : Range) : Type 0 where
  pub first : p.from ≡ x.place
  pub behind : p.to ≡ x.place + length (raw x.read)
  pub inside : p.from ≤ length s
  pub here : drop p.from s ≡ raw x.read ++ drop p.to s

pub record IsFound (s : List ℕ) (x : Text ℕ) (e : ℕ) (r : Found Range) : Type 0 where
  pub part : IsPart s x r.part
  pub next : r.next ≡ e

-- whichever text of the form F x stands here, before what may follow: it is found, and where it ends
abbrev pub Finds : (Text ℕ → Form) → (List ℕ → Type 0) → List ℕ → ℕ → Found Range → Type 0
Finds F Fol s at r = (x : Text ℕ) (e : ℕ) → Stands (F x) s at e → Fol (drop e s) → IsFound s x e r

-- of an element that starts within s
pub record FindsContent (name : List ℕ) (allowed : ℕ → Bool) (start : ℕ) (s : List ℕ) (at : ℕ) (r : Found Range) : Type 0 where
  pub says : start ≤ length s → Finds (content name allowed start) anything s at r

-- ---- what may be missing

-- `<name`
abbrev pub tag_of : List ℕ → List ℕ
tag_of name = bytes "<" ++ name

-- t tells an element of this name from the words l, one of which stands here where no such element does
pub record TellsTag (name : List ℕ) (l : List (List ℕ)) (s : List ℕ) (at : ℕ) (t : Bool) : Type 0 where
  pub other : t ≡ true → ¬ Starts l (drop at s)
  pub none : t ≡ false → ¬ StandsAt (tag_of name) s at

-- t tells an element, of whatever name, from the end tag of the one that holds it
pub record TellsChild (s : List ℕ) (at : ℕ) (t : Bool) : Type 0 where
  pub inside : t ≡ true → at < length s
  pub tells : (name : List ℕ) → clashes (tag_of name) closing ≡ true → TellsTag name closing s at t

-- a text that may be missing
abbrev pub MaybeIs : List ℕ → Option (Text ℕ) → rust.Option Range → Type 0
MaybeIs s none None = Unit {0}
MaybeIs s none (Some p) = ⊥
MaybeIs s (some x) None = ⊥
MaybeIs s (some x) (Some p) = IsPart s x p

pub record IsMaybe (s : List ℕ) (o : Option (Text ℕ)) (e : ℕ) (r : Found (rust.Option Range)) : Type 0 where
  pub part : MaybeIs s o r.part
  pub next : r.next ≡ e

-- a leaf that may be missing stands here, before the words l
abbrev pub FindsBefore : List (List ℕ) → List ℕ → List ℕ → ℕ → Found (rust.Option Range) → Type 0
FindsBefore l name s at r = (o : Option (Text ℕ)) (e : ℕ) → Stands (maybe (child (leaf name)) o) s at e → Starts l (drop e s) → IsMaybe s o e r

-- `here` tells whether it does
abbrev pub FindsIf : List ℕ → Bool → List ℕ → ℕ → Found (rust.Option Range) → Type 0
FindsIf name here s at r = (l : List (List ℕ)) → TellsTag name l s at here → sharp is_blank l ≡ true → FindsBefore l name s at r

abbrev pub FindsMaybe : List ℕ → List ℕ → ℕ → Found (rust.Option Range) → Type 0
FindsMaybe name s at r = (l : List (List ℕ)) → StandsBefore name l → FindsBefore l name s at r

-- the last of its element
abbrev pub FindsLast : List ℕ → List ℕ → ℕ → Found (rust.Option Range) → Type 0
FindsLast name s at r = StandsBefore name closing → FindsBefore closing name s at r

-- ---- elements that hold elements

-- the rest of a start tag and the blanks after it
abbrev pub entering : Form
entering = blanks · lit ">" · blanks

-- an end tag and the blanks after it
abbrev pub leaving : List ℕ → Form
leaving name = close name · blanks

-- the end of an element that may be missing or written `<X/>`
abbrev pub shutting : List ℕ → Bool → Form
shutting name true = leaving name
shutting name false = lit ""

-- where the children of such an element start; `here` says whether it is there
pub data OpensSo (name : List ℕ) (here : Bool) (s : List ℕ) (at : ℕ) : Opened → Type 0 where
  missing : here ≡ false → OpensSo name here s at (record { long = false; first = at })
  empty : {a h b n : ℕ} → here ≡ true → Ends (tag name) anything s at a → Scanned is_blank s a (length s) h → slice_index s h ≡ 47
      → Past s h 2 b → Scanned is_blank s b (length s) n → OpensSo name here s at (record { long = false; first = n })
  holds : {a h b n : ℕ} → here ≡ true → Ends (tag name) anything s at a → Scanned is_blank s a (length s) h → ¬ (slice_index s h ≡ 47)
      → Past s h 1 b → Scanned is_blank s b (length s) n → OpensSo name here s at (record { long = true; first = n })

-- whether something that may be missing is there
abbrev pub is_there : {A : Type 0} → Option A → Bool
is_there none = false
is_there (some a) = true

-- ---- attributes

abbrev pub FindsAttribute : List ℕ → List ℕ → ℕ → Found Range → Type 0
FindsAttribute name s at r = NoBlankFirst name → Finds (attribute name) anything s at r

abbrev pub FindsAttributeMaybe : List ℕ → List ℕ → ℕ → Found (rust.Option Range) → Type 0
FindsAttributeMaybe name s at r =
    NoBlankFirst name → (l : List (List ℕ)) → clashes name l ≡ true → (o : Option (Text ℕ)) (e : ℕ) → Stands (attribute? name o) s at e → Starts l (skip (drop e s)) → IsMaybe s o e r
