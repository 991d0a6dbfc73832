use Rattle.std.proofs.Common.{◌≡◌, ◌+◌, ◌<◌, take, drop, sym, refl, ap, ◌∙◌, subst, arith, rules}
use Rattle.std.proofs.lemmas.List.{drop-set-lt, drop-drop, get_or-take, length-take-le}
use Rattle.lists.specs.Runs.{Answers, Runs, ends}
use Rattle.lists.proofs.Deciding.{decided, fronts_more}
use Rattle.lists.proofs.runs.serve_all.Goals as goal

pub loop-at-init : goal.loop-at-init
loop-at-init g c =
    let list = g.L.WaitingList in
    let table = list.holds c.args.list.now in
    record {
      capacity = refl {a = list.capacity c.args.list.now};
      answers = ends table table (λ n. refl {a = table n});
      rest = refl {a = c.args.answers.now};
    }

pub loop-at-preserved : goal.loop-at-preserved
loop-at-preserved g c =
    let list = g.L.WaitingList in
    let sooner = g.K.Key.sooner in
    let s = c.args.list.now in
    let t = c.loop-at.list in
    let u = c.serve.new.list in
    let inv = c.loop-at.invariant in
    let at = c.loop-at.at in
    let requests = c.args.requests.now in
    let answers = c.loop-at.answers in
    let request = c.request-item.result in
    let answer = c.serve.result in
    let n = c.min-count.result in
    let seen = length-take-le n requests (omega arith) in
    let l : at < n = omega arith in
    let went = subst (λ n. Answers sooner n (list.holds t) request answer (list.holds u)) inv.capacity c.serve.ensures.answer in
    record {
      capacity = c.serve.ensures.capacity ∙ inv.capacity;
      answers = fronts_more sooner g.met.K.Key.laws.ties (list.capacity s) (list.holds s) (list.holds t) (list.holds u) requests answers at request answer
          (omega arith) (omega arith) (c.request-item.is ∙ get_or-take n requests at request l) inv.answers went;
      rest = drop-set-lt (at + 1) answers at answer (omega arith) ∙ sym (drop-drop 1 at answers) ∙ ap (drop 1) inv.rest ∙ drop-drop 1 at c.args.answers.now;
    }

pub returns : goal.returns
returns g c =
    let list = g.L.WaitingList in
    let sooner = g.K.Key.sooner in
    let s = c.args.list.now in
    let t = c.loop-at.list in
    let inv = c.loop-at.invariant in
    let n = c.min-count.result in
    let seen = length-take-le n c.args.requests.now (omega arith) in
    let all : c.loop-at.at ≡ n = omega arith in
    let runs = subst (λ k. Runs sooner (list.capacity s) (list.holds s) (take k c.args.requests.now) (take k c.loop-at.answers) (list.holds t)) all inv.answers in
    record {
      count = search rules;
      capacity = inv.capacity;
      answers = runs;
      rest = subst (λ k. drop k c.loop-at.answers ≡ drop k c.args.answers.now) all inv.rest;
      decided = decided sooner g.met.K.Key.laws.ties (list.capacity s) (list.holds s) (list.holds t) (take n c.args.requests.now) (take n c.loop-at.answers) runs;
    }
