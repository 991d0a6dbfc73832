use Rattle.std.proofs.Common.{None, rules}
use Rattle.std.proofs.lemmas.Result.{err_from_is_err_and, MatchResult-at_ok, MatchResult-at_err}
use Rattle.ranking.specs.Judging.{site_refused, site_alone}
use Rattle.ranking.proofs.Concluding.{said_of_site}
use Rattle.ranking.proofs.Once.{judged_once}
use Rattle.ranking.proofs.judge.judge_site.Goals as goal

pub returns-in_err-map_err : goal.returns-in_err-map_err
returns-in_err-map_err c =
    let p = err_from_is_err_and c.from_residual.result c.from_residual.ensures.1 in
    let s = MatchResult-at_err _ _ _ c.in_err-map_err.was (said_of_site c.args.site.now _ _ _ c.read_site.ensures c.map_err.ensures.cases (λ e d k. search rules)) in
    let w = site_refused s.2 in
    rw (p.1, p.2, s.1) (record { verdict = w; only = λ k j. judged_once c.args.site.now None k _ j w })

pub returns : goal.returns
returns c =
    let s = MatchResult-at_ok _ _ _ c.in_ok-map_err.was (said_of_site c.args.site.now _ _ _ c.read_site.ensures c.map_err.ensures.cases (λ e d k. search rules)) in
    let w = site_alone s.accepted in
    record { verdict = w; only = λ k j. judged_once c.args.site.now None k _ j w }
