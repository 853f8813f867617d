use Rattle.circuit.proofs.Tested.{tests-Tests, Tests-tests}
use Rattle.circuit.proofs.Fit.{tables_fit_lem}
use Rattle.circuit.proofs.Readers.{readers-read, read-readers}
use Rattle.circuit.proofs.tests_tell.Goals as goal

pub returns : goal.returns
returns c = record {
  tests_as_defined = λ n φ v. (tests-Tests n φ v, Tests-tests n φ v);
  passing_tables_fit = tables_fit_lem;
  readers = λ cells j k. (readers-read cells j k, read-readers cells j k);
}
