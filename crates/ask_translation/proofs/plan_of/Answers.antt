-- By the key, the qualifiers, the location, and the value that the listing gives.
use Rattle.ask_translation.proofs.Planning.{plan_none, plan_excepted, plan_odd, plan_given, plan_from}
use Rattle.ask_translation.proofs.plan_of.Goals as goal
use Rattle.ask_translation.proofs.plan_of.Goals.{then-noted-via-then-noted, then-noted-via-else-noted+then-leaves_unjudged}

pub returns-then-not-is_coding : goal.returns-then-not-is_coding
returns-then-not-is_coding c = plan_none c.bytes_of-name.ensures c.is_coding.ensures c.if-not-is_coding.true c.qualifiers_over.ensures

pub returns-then-noted : goal.returns-then-noted
returns-then-noted c =
    elim c.then-noted.branch [
      | then-noted-via-then-noted w ↦
          plan_excepted c.bytes_of-name.ensures c.is_coding.ensures c.if-not-is_coding.false c.note-noted.ensures w.if-noted.true
      | then-noted-via-else-noted+then-leaves_unjudged w ↦
          plan_odd c.bytes_of-name.ensures c.is_coding.ensures c.if-not-is_coding.false c.note-noted.ensures w.if-noted.false w.leaves_unjudged.ensures w.if-leaves_unjudged.true
    ]

pub returns-in-Some : goal.returns-in-Some
returns-in-Some c =
    plan_given c.bytes_of-name.ensures c.is_coding.ensures c.if-not-is_coding.false c.note-noted.ensures c.if-noted.false c.leaves_unjudged.ensures
    c.if-leaves_unjudged.false c.start_of-start.ensures c.given_at.ensures c.in-Some.is

pub returns-in-None : goal.returns-in-None
returns-in-None c =
    plan_from c.bytes_of-name.ensures c.is_coding.ensures c.if-not-is_coding.false c.note-noted.ensures c.if-noted.false c.leaves_unjudged.ensures
    c.if-leaves_unjudged.false c.start_of-start.ensures
