use Rattle.std.proofs.Common.{Ok, Option, subst}
use Rattle.std.proofs.lemmas.Result.{err_from_is_err_and}
use Rattle.bench.specs.declared.statement.Statement.{Statement}
use Rattle.bench.specs.Statements.{said, StatementReads}
use Rattle.bench.proofs.Broken.{clean_proper}
use Rattle.bench.proofs.Steps.{statement_line, refused_line}
use Rattle.bench.proofs.declarations.Declarations.read_line.Goals as goal

pub returns-in_err-read_statement : goal.returns-in_err-read_statement
returns-in_err-read_statement c =
    let p = err_from_is_err_and c.from_residual.result c.from_residual.ensures.1 in
    rw (p.1, p.2) (refused_line c.args.self.now c.args.line c.in_err-read_statement.field-0.0 c.in_err-read_statement.ensures)

pub declare-requires : goal.declare-requires
declare-requires c =
    let P : Option Statement → Type 0 = λ o. StatementReads c.args.line (Ok o) in
    let reads = subst P c.in-Some.is c.in_ok-read_statement.ensures in
    clean_proper c.args.line (said c.in-Some.says) reads.0 reads.1

pub returns-in-Some : goal.returns-in-Some
returns-in-Some c =
    let P : Option Statement → Type 0 = λ o. StatementReads c.args.line (Ok o) in
    statement_line c.args.self.now c.declare.new.self c.args.line c.in-Some.says c.declare.result (subst P c.in-Some.is c.in_ok-read_statement.ensures) c.declare.ensures
