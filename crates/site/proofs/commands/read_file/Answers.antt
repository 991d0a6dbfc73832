use Rattle.std.proofs.lemmas.Bool.{both_ways}
use Rattle.std.proofs.lemmas.Result.{err_from_is_err_and}
use Rattle.site.specs.Files.{long}
use Rattle.site.proofs.Reading.{stopped_rejected, ended_lacks, ended_trailing, ended_accepted}
use Rattle.site.proofs.commands.read_file.Goals as goal

pub returns-then-bytes-gt-FILE_BYTES : goal.returns-then-bytes-gt-FILE_BYTES
returns-then-bytes-gt-FILE_BYTES g c = long c.if-bytes-gt-FILE_BYTES.true

pub returns-in_err-end : goal.returns-in_err-end
returns-in_err-end g c =
    let p = err_from_is_err_and c.from_residual.result c.from_residual.ensures.1 in
    rw (p.1, p.2) (stopped_rejected (g.R.FromCommands.format c.args.of.now) _ _ c.if-bytes-gt-FILE_BYTES.false c.in_err-end.ensures)

pub returns-then-not-is_whole : goal.returns-then-not-is_whole
returns-then-not-is_whole g c =
    let f = g.R.FromCommands in
    let e = c.in_ok-end.ensures in
    let d = c.is_whole.ensures e.0.before e.1 in
    ended_lacks (f.format c.args.of.now) (f.spelled c.args.of.now).one _ _ e.0 c.if-bytes-gt-FILE_BYTES.false
    (λ w. both_ways _ c.if-not-is_whole.true (d.1 w))

pub returns-then-end-bytes : goal.returns-then-end-bytes
returns-then-end-bytes g c =
    let f = g.R.FromCommands in
    let e = c.in_ok-end.ensures in
    let d = c.is_whole.ensures e.0.before e.1 in
    ended_trailing (f.format c.args.of.now) (f.spelled c.args.of.now).one _ _ e.0 c.if-bytes-gt-FILE_BYTES.false
    (d.0 c.if-not-is_whole.false) c.if-end-bytes.true

pub returns : goal.returns
returns g c =
    let f = g.R.FromCommands in
    let e = c.in_ok-end.ensures in
    let d = c.is_whole.ensures e.0.before e.1 in (
      ended_accepted (f.format c.args.of.now) (f.spelled c.args.of.now).one _ _ e.0 c.if-bytes-gt-FILE_BYTES.false
          (d.0 c.if-not-is_whole.false) c.if-end-bytes.false,
      e.1,
    )
