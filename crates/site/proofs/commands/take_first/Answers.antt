use Rattle.std.proofs.Common.{inr}
use Rattle.std.proofs.lemmas.Result.{err_from_is_err_and}
use Rattle.site.proofs.commands.take_first.Goals as goal

pub returns-in_err-take : goal.returns-in_err-take
returns-in_err-take g c = λ before h.
    let e = c.in_err-take.ensures before h in
    let p = err_from_is_err_and c.from_residual-in_err-take.result c.from_residual-in_err-take.ensures.1 in
    rw (p.1, p.2) (inr (c.in_ok-command.command, c.in_ok-command.rest.now, c.in_ok-command.ensures c.args.of.now, e))
