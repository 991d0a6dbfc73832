use Rattle.std.proofs.Common.{rules}
use Rattle.std.proofs.lemmas.Result.{err_from_is_err_and, MatchResult-at_ok, MatchResult-at_err}
use Rattle.ranking.specs.Judging.{site_refused}
use Rattle.ranking.proofs.Concluding.{said_of_site, judged_ranking}
use Rattle.ranking.proofs.Once.{judged_once}
use Rattle.ranking.proofs.judge.judge.Goals as goal

pub returns-in_err-task : goal.returns-in_err-task
returns-in_err-task c =
    let p = err_from_is_err_and c.from_residual.result c.from_residual.ensures.1 in
    let s = MatchResult-at_err _ _ _ c.in_err-task.was (said_of_site c.args.site.now _ _ _ c.read_site.ensures c.map_err.ensures.cases (λ e d k. search rules)) in
    let w = site_refused s.2 in
    rw (p.1, p.2, s.1) (record { verdict = w; only = λ k j. judged_once c.args.site.now _ k _ j w; reliable = tt })

pub returns : goal.returns
returns c =
    let s = MatchResult-at_ok _ _ _ c.in_ok-task.was (said_of_site c.args.site.now _ _ _ c.read_site.ensures c.map_err.ensures.cases (λ e d k. search rules)) in
    let w = judged_ranking c.args.site.now c.in_ok-task.task s c.args.ranking.now _ _ _ c.judge_ranking.ensures c.map_err-2.ensures.cases (λ e d k. search rules) in
    record { verdict = w.0; only = λ k j. judged_once c.args.site.now _ k _ j w.0; reliable = w.1 }
