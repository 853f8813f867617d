-- The numbers, lines and layer of what the text layer refuses.
use Rattle.model.specs.declared.refusal.Refusal.{Refusal}
use Rattle.model.specs.Refusals.{refusal}
use Rattle.text.specs.declared.fault.TextFault.{TextFault}
use Rattle.text.specs.declared.fault.TextFault.TheVariants.{TooLong, NoStatement, LongName}

abbrev pub text_refusal : TextFault → Refusal
text_refusal TooLong = refusal 2 0
text_refusal (NoStatement k) = refusal 3 k
text_refusal (LongName k) = refusal 4 k
