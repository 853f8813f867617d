-- The numbers, lines and layers of what a text and its statements are refused for.
use Rattle.model.specs.declared.refusal.Refusal.{Refusal}
use Rattle.model.specs.Refusals.{refusal}
use Rattle.text.specs.Faults.{text_refusal}
use Rattle.bench.specs.declared.fault.StatementFault.{StatementFault}
use Rattle.bench.specs.declared.fault.StatementFault.TheVariants.{Text, UnknownKind, OperandCount, DefinedBefore, ListedBefore, BeyondLimit}

abbrev pub statement_refusal : StatementFault → Refusal
statement_refusal (Text fault) = text_refusal fault
statement_refusal (UnknownKind k) = refusal 5 k
statement_refusal (OperandCount k) = refusal 6 k
statement_refusal (DefinedBefore k) = refusal 7 k
statement_refusal (ListedBefore k) = refusal 8 k
statement_refusal (BeyondLimit k) = refusal 9 k
