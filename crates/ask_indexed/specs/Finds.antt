-- What is promised of an item that an index finds: the checker's refusal, a later one, or which of the paper's tree it is.
use Rattle.std.specs.Prelude.{ℕ, Result, Ok, Err, List}
use Rattle.paper.specs.declared.Refused.{Refused}
use Rattle.paper.specs.Lists.{Numbered}
use Rattle.paper.specs.Tree.{Feature, Sequence, features_of}
use Rattle.paper.specs.Answers.{refuse, give, FindsSequence, FindsFeature}
use Rattle.paper.specs.Index.{ChecksIndex}
use Rattle.index_find.specs.Finds.{RangeOf, BodyIs}
use Rattle.index_find.specs.declared.Body.{Body}
use Rattle.index_find.specs.declared.Entry.{Entry}
use Rattle.ask_index.specs.Takes.{IndexOf}

-- the checker's refusal; or, where the index belongs to the listing, a later one
pub data Refuses (w x : List ℕ) (Later : ℕ → ℕ → Type 0) (n p : ℕ) : Type 0 where
  checker : ChecksIndex w x (refuse n p) → Refuses w x Later n p
  later : IndexOf w x → Later n p → Refuses w x Later n p

-- ---- a sequence

pub record BodyHere (w x : List ℕ) (k : ℕ) (b : Body) : Type 0 where
  pub index : IndexOf w x
  pub asked : Sequence ℕ
  pub numbered : Numbered index.listing.sequences k asked
  pub finds : FindsSequence w k (give asked)
  pub is : BodyIs x asked b

abbrev pub SequenceRefused : List ℕ → ℕ → ℕ → ℕ → Type 0
SequenceRefused w k n p = FindsSequence w k (refuse n p)

abbrev pub BodyAsked : List ℕ → List ℕ → ℕ → Result Body Refused → Type 0
BodyAsked w x k (Err r) = Refuses w x (SequenceRefused w k) r.rule r.place
BodyAsked w x k (Ok b) = BodyHere w x k b

-- ---- a feature

pub record EntryHere (w x : List ℕ) (k j : ℕ) (b : Body) (e : Entry) : Type 0 where
  pub body : BodyHere w x k b
  pub asked : Feature ℕ
  pub numbered : Numbered (features_of (body).asked) j asked
  pub key : RangeOf asked.key e.key
  pub location : RangeOf asked.location e.location

abbrev pub FeatureRefused : List ℕ → ℕ → ℕ → ℕ → ℕ → Type 0
FeatureRefused w k j n p = FindsFeature w k j (refuse n p)

abbrev pub EntryAsked : List ℕ → List ℕ → ℕ → ℕ → Result (Body × Entry) Refused → Type 0
EntryAsked w x k j (Err r) = Refuses w x (FeatureRefused w k j) r.rule r.place
EntryAsked w x k j (Ok y) = EntryHere w x k j y.0 y.1
