-- What a command of the program stands for.
use Rattle.px_words.specs.declared.command.Command.{Command as Asked}
use Rattle.px_words.specs.declared.command.Command.TheVariants as asks
use Rattle.px_words.specs.Words.{Command, TraceStart, DryRun, Check, Format, Run, Resume, Trace, Soak, Names}

abbrev pub asked : Asked → Command
asked (asks.TraceStart plan) = TraceStart plan.now
asked (asks.DryRun plan script) = DryRun plan.now script.now
asked (asks.Check plan) = Check plan.now
asked (asks.Format plan) = Format plan.now
asked (asks.Run plan script journal limit) = Run plan.now script.now journal.now limit
asked (asks.Resume script journal limit) = Resume script.now journal.now limit
asked (asks.Trace journal) = Trace journal.now
asked (asks.Soak count seed journal) = Soak count seed journal.now
asked (asks.Names journal) = Names journal.now
