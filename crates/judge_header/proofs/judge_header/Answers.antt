-- `judge_header::judge_header` meets its contract: the earliest of the rules 10 to 13.
use Rattle.judge_header.proofs.Sums.{header_judged}
use Rattle.judge_header.proofs.judge_header.Goals as goal

pub returns : goal.returns
returns c =
    let header = c.header-produced in
    let judge-version = c.judge_version-a in
    let judge-dates = c.judge_dates-b in
    let judge-offices = c.judge_offices-c in
    let judge-languages = c.judge_languages-d in
    header_judged judge-version.result judge-dates.result judge-offices.result c.earlier-f.result
    c.earlier-g.result header.ensures judge-version.ensures judge-dates.ensures judge-offices.ensures
    judge-languages.ensures c.total-first.ensures c.earlier-f.ensures
    c.earlier-g.ensures c.earlier.ensures
