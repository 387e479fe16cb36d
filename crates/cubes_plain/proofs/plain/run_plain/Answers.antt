use Rattle.std.proofs.Common.{List, ℕ, ap, subst, sym, Ok, Err, inl, inr}
use Rattle.std.specs.String.{string_bytes}
use Rattle.cubes_plain.specs.Descriptors.{TellsDescribedAt, TellsMisdescribedAt}
use Rattle.cubes_plain.specs.Files.{TellsAcceptedAt, TellsFaultyAt}
use Rattle.fault_lines.specs.Files.{TellsLongerAt, TellsNothingAt}
use Rattle.cubes_plain.specs.Steps.{IsStepRun, files_at, sink_at}
use Rattle.cubes_plain.specs.Words.{IsCuboids, IsFold, IsStep}
use Rattle.cubes_plain.proofs.StepFacts.{step_memory}
use Rattle.cubes_plain.proofs.WordFacts.{along_step, not_both, one_cuboids, one_fold, over_cuboids, over_fold, step_over}
use Rattle.cubes_plain.proofs.plain.run_plain.Goals as goal

pub returns-in-Ok-Fold-clause-done : goal.returns-in-Ok-Fold-clause-done
returns-in-Ok-Fold-clause-done g c no_step same =
    let path = c.as_str.result.now in
    let said = subst (λ (p : List ℕ). IsFold c.args.words.now p) (sym c.as_str.ensures.value) (c.in-Ok-Fold.ensures.fold c.in-Ok-Fold.path (ap Ok c.in-Ok-Fold.field-0-is)) in
    let r = c.run_fold.ensures.done same in
    inl (path, r.0, said, r.1, r.2)

pub returns-in-Ok-Fold-clause-write_fault_part : goal.returns-in-Ok-Fold-clause-write_fault_part
returns-in-Ok-Fold-clause-write_fault_part g c no_step same =
    let path = c.as_str.result.now in
    let said = subst (λ (p : List ℕ). IsFold c.args.words.now p) (sym c.as_str.ensures.value) (c.in-Ok-Fold.ensures.fold c.in-Ok-Fold.path (ap Ok c.in-Ok-Fold.field-0-is)) in
    let r = c.run_fold.ensures.write_fault_part same in
    inl (path, r.0, said, r.1, r.2)

pub returns-in-Ok-Fold-clause-no_command : goal.returns-in-Ok-Fold-clause-no_command
returns-in-Ok-Fold-clause-no_command g c none =
    let path = c.as_str.result.now in
    let said = subst (λ (p : List ℕ). IsFold c.args.words.now p) (sym c.as_str.ensures.value) (c.in-Ok-Fold.ensures.fold c.in-Ok-Fold.path (ap Ok c.in-Ok-Fold.field-0-is)) in
    absurd (none.0 path (inl said))

pub returns-in-Ok-Fold-clause-read_fault_line : goal.returns-in-Ok-Fold-clause-read_fault_line
returns-in-Ok-Fold-clause-read_fault_line g c no_step same =
    let path = c.as_str.result.now in
    let said = subst (λ (p : List ℕ). IsFold c.args.words.now p) (sym c.as_str.ensures.value) (c.in-Ok-Fold.ensures.fold c.in-Ok-Fold.path (ap Ok c.in-Ok-Fold.field-0-is)) in
    (path, inl said, c.run_fold.ensures.read_fault_line same)

pub returns-in-Ok-Fold-clause-too_large : goal.returns-in-Ok-Fold-clause-too_large
returns-in-Ok-Fold-clause-too_large g c same =
    let path = c.as_str.result.now in
    let said = subst (λ (p : List ℕ). IsFold c.args.words.now p) (sym c.as_str.ensures.value) (c.in-Ok-Fold.ensures.fold c.in-Ok-Fold.path (ap Ok c.in-Ok-Fold.field-0-is)) in
    let r = c.run_fold.ensures.too_large same in
    (path, inl said, r.0, r.1)

pub returns-in-Ok-Fold-clause-nothing_there : goal.returns-in-Ok-Fold-clause-nothing_there
returns-in-Ok-Fold-clause-nothing_there g c of over told =
    let path = c.as_str.result.now in
    let said = subst (λ (p : List ℕ). IsFold c.args.words.now p) (sym c.as_str.ensures.value) (c.in-Ok-Fold.ensures.fold c.in-Ok-Fold.path (ap Ok c.in-Ok-Fold.field-0-is)) in
    let contents = g.F.Files.contents c.args.files.now in
    c.run_fold.ensures.nothing_there (subst (λ (p : List ℕ). TellsNothingAt contents p) (over_fold c.args.words.now of path over said) told)

pub returns-in-Ok-Fold-clause-longer : goal.returns-in-Ok-Fold-clause-longer
returns-in-Ok-Fold-clause-longer g c of over told =
    let path = c.as_str.result.now in
    let said = subst (λ (p : List ℕ). IsFold c.args.words.now p) (sym c.as_str.ensures.value) (c.in-Ok-Fold.ensures.fold c.in-Ok-Fold.path (ap Ok c.in-Ok-Fold.field-0-is)) in
    let contents = g.F.Files.contents c.args.files.now in
    c.run_fold.ensures.longer (subst (λ (p : List ℕ). TellsLongerAt contents p) (over_fold c.args.words.now of path over said) told)

pub returns-in-Ok-Fold-clause-bad_table : goal.returns-in-Ok-Fold-clause-bad_table
returns-in-Ok-Fold-clause-bad_table g c same =
    let path = c.as_str.result.now in
    let said = subst (λ (p : List ℕ). IsFold c.args.words.now p) (sym c.as_str.ensures.value) (c.in-Ok-Fold.ensures.fold c.in-Ok-Fold.path (ap Ok c.in-Ok-Fold.field-0-is)) in
    let r = c.run_fold.ensures.bad_table same in
    (path, r.0, said, r.1, r.2)

pub returns-in-Ok-Fold-clause-faulty : goal.returns-in-Ok-Fold-clause-faulty
returns-in-Ok-Fold-clause-faulty g c of fault words told =
    let path = c.as_str.result.now in
    let said = subst (λ (p : List ℕ). IsFold c.args.words.now p) (sym c.as_str.ensures.value) (c.in-Ok-Fold.ensures.fold c.in-Ok-Fold.path (ap Ok c.in-Ok-Fold.field-0-is)) in
    let contents = g.F.Files.contents c.args.files.now in
    c.run_fold.ensures.faulty fault (subst (λ (p : List ℕ). TellsFaultyAt contents p fault) (one_fold c.args.words.now of path words said) told)

pub returns-in-Ok-Fold-clause-complete : goal.returns-in-Ok-Fold-clause-complete
returns-in-Ok-Fold-clause-complete g c of value words told no_read no_write =
    let path = c.as_str.result.now in
    let said = subst (λ (p : List ℕ). IsFold c.args.words.now p) (sym c.as_str.ensures.value) (c.in-Ok-Fold.ensures.fold c.in-Ok-Fold.path (ap Ok c.in-Ok-Fold.field-0-is)) in
    let contents = g.F.Files.contents c.args.files.now in
    c.run_fold.ensures.complete value (subst (λ (p : List ℕ). TellsAcceptedAt contents p value) (one_fold c.args.words.now of path words said) told) no_read no_write

pub returns-in-Ok-Fold-clause-misdescribed : goal.returns-in-Ok-Fold-clause-misdescribed
returns-in-Ok-Fold-clause-misdescribed g c of fault words told =
    let path = c.as_str.result.now in
    let said = subst (λ (p : List ℕ). IsFold c.args.words.now p) (sym c.as_str.ensures.value) (c.in-Ok-Fold.ensures.fold c.in-Ok-Fold.path (ap Ok c.in-Ok-Fold.field-0-is)) in
    absurd (not_both c.args.words.now path of said words)

pub returns-in-Ok-Fold-clause-complete_cuboids : goal.returns-in-Ok-Fold-clause-complete_cuboids
returns-in-Ok-Fold-clause-complete_cuboids g c of value words told no_read no_write =
    let path = c.as_str.result.now in
    let said = subst (λ (p : List ℕ). IsFold c.args.words.now p) (sym c.as_str.ensures.value) (c.in-Ok-Fold.ensures.fold c.in-Ok-Fold.path (ap Ok c.in-Ok-Fold.field-0-is)) in
    absurd (not_both c.args.words.now path of said words)

pub returns-in-Ok-Fold-clause-step : goal.returns-in-Ok-Fold-clause-step
returns-in-Ok-Fold-clause-step g c task product stop words =
    let path = c.as_str.result.now in
    let said = subst (λ (p : List ℕ). IsFold c.args.words.now p) (sym c.as_str.ensures.value) (c.in-Ok-Fold.ensures.fold c.in-Ok-Fold.path (ap Ok c.in-Ok-Fold.field-0-is)) in
    absurd (step_over c.args.words.now task product stop path words (inl said))

pub returns-in-Ok-Cuboids-clause-done : goal.returns-in-Ok-Cuboids-clause-done
returns-in-Ok-Cuboids-clause-done g c no_step same =
    let path = c.as_str-in-Ok-Cuboids.result.now in
    let said = subst (λ (p : List ℕ). IsCuboids c.args.words.now p) (sym c.as_str-in-Ok-Cuboids.ensures.value) (c.in-Ok-Cuboids.ensures.cuboids c.in-Ok-Cuboids.path (ap Ok c.in-Ok-Cuboids.field-0-is)) in
    let r = c.run_cuboids.ensures.done same in
    inr (path, r.0, said, r.1, r.2)

pub returns-in-Ok-Cuboids-clause-write_fault_part : goal.returns-in-Ok-Cuboids-clause-write_fault_part
returns-in-Ok-Cuboids-clause-write_fault_part g c no_step same =
    let path = c.as_str-in-Ok-Cuboids.result.now in
    let said = subst (λ (p : List ℕ). IsCuboids c.args.words.now p) (sym c.as_str-in-Ok-Cuboids.ensures.value) (c.in-Ok-Cuboids.ensures.cuboids c.in-Ok-Cuboids.path (ap Ok c.in-Ok-Cuboids.field-0-is)) in
    let r = c.run_cuboids.ensures.write_fault_part same in
    inr (path, r.0, said, r.1, r.2)

pub returns-in-Ok-Cuboids-clause-no_command : goal.returns-in-Ok-Cuboids-clause-no_command
returns-in-Ok-Cuboids-clause-no_command g c none =
    let path = c.as_str-in-Ok-Cuboids.result.now in
    let said = subst (λ (p : List ℕ). IsCuboids c.args.words.now p) (sym c.as_str-in-Ok-Cuboids.ensures.value) (c.in-Ok-Cuboids.ensures.cuboids c.in-Ok-Cuboids.path (ap Ok c.in-Ok-Cuboids.field-0-is)) in
    absurd (none.0 path (inr said))

pub returns-in-Ok-Cuboids-clause-read_fault_line : goal.returns-in-Ok-Cuboids-clause-read_fault_line
returns-in-Ok-Cuboids-clause-read_fault_line g c no_step same =
    let path = c.as_str-in-Ok-Cuboids.result.now in
    let said = subst (λ (p : List ℕ). IsCuboids c.args.words.now p) (sym c.as_str-in-Ok-Cuboids.ensures.value) (c.in-Ok-Cuboids.ensures.cuboids c.in-Ok-Cuboids.path (ap Ok c.in-Ok-Cuboids.field-0-is)) in
    (path, inr said, c.run_cuboids.ensures.read_fault_line same)

pub returns-in-Ok-Cuboids-clause-too_large : goal.returns-in-Ok-Cuboids-clause-too_large
returns-in-Ok-Cuboids-clause-too_large g c same =
    let path = c.as_str-in-Ok-Cuboids.result.now in
    let said = subst (λ (p : List ℕ). IsCuboids c.args.words.now p) (sym c.as_str-in-Ok-Cuboids.ensures.value) (c.in-Ok-Cuboids.ensures.cuboids c.in-Ok-Cuboids.path (ap Ok c.in-Ok-Cuboids.field-0-is)) in
    let r = c.run_cuboids.ensures.too_large same in
    (path, inr said, r.0, r.1)

pub returns-in-Ok-Cuboids-clause-nothing_there : goal.returns-in-Ok-Cuboids-clause-nothing_there
returns-in-Ok-Cuboids-clause-nothing_there g c of over told =
    let path = c.as_str-in-Ok-Cuboids.result.now in
    let said = subst (λ (p : List ℕ). IsCuboids c.args.words.now p) (sym c.as_str-in-Ok-Cuboids.ensures.value) (c.in-Ok-Cuboids.ensures.cuboids c.in-Ok-Cuboids.path (ap Ok c.in-Ok-Cuboids.field-0-is)) in
    let contents = g.F.Files.contents c.args.files.now in
    c.run_cuboids.ensures.nothing_there (subst (λ (p : List ℕ). TellsNothingAt contents p) (over_cuboids c.args.words.now of path over said) told)

pub returns-in-Ok-Cuboids-clause-longer : goal.returns-in-Ok-Cuboids-clause-longer
returns-in-Ok-Cuboids-clause-longer g c of over told =
    let path = c.as_str-in-Ok-Cuboids.result.now in
    let said = subst (λ (p : List ℕ). IsCuboids c.args.words.now p) (sym c.as_str-in-Ok-Cuboids.ensures.value) (c.in-Ok-Cuboids.ensures.cuboids c.in-Ok-Cuboids.path (ap Ok c.in-Ok-Cuboids.field-0-is)) in
    let contents = g.F.Files.contents c.args.files.now in
    c.run_cuboids.ensures.longer (subst (λ (p : List ℕ). TellsLongerAt contents p) (over_cuboids c.args.words.now of path over said) told)

pub returns-in-Ok-Cuboids-clause-bad_descriptor : goal.returns-in-Ok-Cuboids-clause-bad_descriptor
returns-in-Ok-Cuboids-clause-bad_descriptor g c same =
    let path = c.as_str-in-Ok-Cuboids.result.now in
    let said = subst (λ (p : List ℕ). IsCuboids c.args.words.now p) (sym c.as_str-in-Ok-Cuboids.ensures.value) (c.in-Ok-Cuboids.ensures.cuboids c.in-Ok-Cuboids.path (ap Ok c.in-Ok-Cuboids.field-0-is)) in
    let r = c.run_cuboids.ensures.bad_descriptor same in
    (path, r.0, said, r.1, r.2)

pub returns-in-Ok-Cuboids-clause-misdescribed : goal.returns-in-Ok-Cuboids-clause-misdescribed
returns-in-Ok-Cuboids-clause-misdescribed g c of fault words told =
    let path = c.as_str-in-Ok-Cuboids.result.now in
    let said = subst (λ (p : List ℕ). IsCuboids c.args.words.now p) (sym c.as_str-in-Ok-Cuboids.ensures.value) (c.in-Ok-Cuboids.ensures.cuboids c.in-Ok-Cuboids.path (ap Ok c.in-Ok-Cuboids.field-0-is)) in
    let contents = g.F.Files.contents c.args.files.now in
    c.run_cuboids.ensures.misdescribed fault (subst (λ (p : List ℕ). TellsMisdescribedAt contents p fault) (one_cuboids c.args.words.now of path words said) told)

pub returns-in-Ok-Cuboids-clause-complete_cuboids : goal.returns-in-Ok-Cuboids-clause-complete_cuboids
returns-in-Ok-Cuboids-clause-complete_cuboids g c of value words told no_read no_write =
    let path = c.as_str-in-Ok-Cuboids.result.now in
    let said = subst (λ (p : List ℕ). IsCuboids c.args.words.now p) (sym c.as_str-in-Ok-Cuboids.ensures.value) (c.in-Ok-Cuboids.ensures.cuboids c.in-Ok-Cuboids.path (ap Ok c.in-Ok-Cuboids.field-0-is)) in
    let contents = g.F.Files.contents c.args.files.now in
    c.run_cuboids.ensures.complete value (subst (λ (p : List ℕ). TellsDescribedAt contents p value) (one_cuboids c.args.words.now of path words said) told) no_read no_write

pub returns-in-Ok-Cuboids-clause-faulty : goal.returns-in-Ok-Cuboids-clause-faulty
returns-in-Ok-Cuboids-clause-faulty g c of fault words told =
    let path = c.as_str-in-Ok-Cuboids.result.now in
    let said = subst (λ (p : List ℕ). IsCuboids c.args.words.now p) (sym c.as_str-in-Ok-Cuboids.ensures.value) (c.in-Ok-Cuboids.ensures.cuboids c.in-Ok-Cuboids.path (ap Ok c.in-Ok-Cuboids.field-0-is)) in
    absurd (not_both c.args.words.now of path words said)

pub returns-in-Ok-Cuboids-clause-complete : goal.returns-in-Ok-Cuboids-clause-complete
returns-in-Ok-Cuboids-clause-complete g c of value words told no_read no_write =
    let path = c.as_str-in-Ok-Cuboids.result.now in
    let said = subst (λ (p : List ℕ). IsCuboids c.args.words.now p) (sym c.as_str-in-Ok-Cuboids.ensures.value) (c.in-Ok-Cuboids.ensures.cuboids c.in-Ok-Cuboids.path (ap Ok c.in-Ok-Cuboids.field-0-is)) in
    absurd (not_both c.args.words.now of path words said)

pub returns-in-Ok-Cuboids-clause-step : goal.returns-in-Ok-Cuboids-clause-step
returns-in-Ok-Cuboids-clause-step g c task product stop words =
    let path = c.as_str-in-Ok-Cuboids.result.now in
    let said = subst (λ (p : List ℕ). IsCuboids c.args.words.now p) (sym c.as_str-in-Ok-Cuboids.ensures.value) (c.in-Ok-Cuboids.ensures.cuboids c.in-Ok-Cuboids.path (ap Ok c.in-Ok-Cuboids.field-0-is)) in
    absurd (step_over c.args.words.now task product stop path words (inr said))

pub returns-in-Ok-Step-clause-done : goal.returns-in-Ok-Step-clause-done
returns-in-Ok-Step-clause-done g c no_step same =
    let said = c.in-Ok-Step.ensures.step c.in-Ok-Step.task c.in-Ok-Step.product c.in-Ok-Step.stop (ap Ok c.in-Ok-Step.field-0-is) in
    absurd (no_step (string_bytes c.in-Ok-Step.task) (string_bytes c.in-Ok-Step.product) (string_bytes c.in-Ok-Step.stop) said)

pub returns-in-Ok-Step-clause-read_fault_line : goal.returns-in-Ok-Step-clause-read_fault_line
returns-in-Ok-Step-clause-read_fault_line g c no_step same =
    let said = c.in-Ok-Step.ensures.step c.in-Ok-Step.task c.in-Ok-Step.product c.in-Ok-Step.stop (ap Ok c.in-Ok-Step.field-0-is) in
    absurd (no_step (string_bytes c.in-Ok-Step.task) (string_bytes c.in-Ok-Step.product) (string_bytes c.in-Ok-Step.stop) said)

pub returns-in-Ok-Step-clause-write_fault : goal.returns-in-Ok-Step-clause-write_fault
returns-in-Ok-Step-clause-write_fault g c no_step same =
    let said = c.in-Ok-Step.ensures.step c.in-Ok-Step.task c.in-Ok-Step.product c.in-Ok-Step.stop (ap Ok c.in-Ok-Step.field-0-is) in
    absurd (no_step (string_bytes c.in-Ok-Step.task) (string_bytes c.in-Ok-Step.product) (string_bytes c.in-Ok-Step.stop) said)

pub returns-in-Ok-Step-clause-write_fault_part : goal.returns-in-Ok-Step-clause-write_fault_part
returns-in-Ok-Step-clause-write_fault_part g c no_step same =
    let said = c.in-Ok-Step.ensures.step c.in-Ok-Step.task c.in-Ok-Step.product c.in-Ok-Step.stop (ap Ok c.in-Ok-Step.field-0-is) in
    absurd (no_step (string_bytes c.in-Ok-Step.task) (string_bytes c.in-Ok-Step.product) (string_bytes c.in-Ok-Step.stop) said)

pub returns-in-Ok-Step-clause-other_status : goal.returns-in-Ok-Step-clause-other_status
returns-in-Ok-Step-clause-other_status g c no_step =
    let said = c.in-Ok-Step.ensures.step c.in-Ok-Step.task c.in-Ok-Step.product c.in-Ok-Step.stop (ap Ok c.in-Ok-Step.field-0-is) in
    absurd (no_step (string_bytes c.in-Ok-Step.task) (string_bytes c.in-Ok-Step.product) (string_bytes c.in-Ok-Step.stop) said)

pub returns-in-Ok-Step-clause-contents : goal.returns-in-Ok-Step-clause-contents
returns-in-Ok-Step-clause-contents g c no_step =
    let said = c.in-Ok-Step.ensures.step c.in-Ok-Step.task c.in-Ok-Step.product c.in-Ok-Step.stop (ap Ok c.in-Ok-Step.field-0-is) in
    absurd (no_step (string_bytes c.in-Ok-Step.task) (string_bytes c.in-Ok-Step.product) (string_bytes c.in-Ok-Step.stop) said)

pub returns-in-Ok-Step-clause-write_faults : goal.returns-in-Ok-Step-clause-write_faults
returns-in-Ok-Step-clause-write_faults g c no_step =
    let said = c.in-Ok-Step.ensures.step c.in-Ok-Step.task c.in-Ok-Step.product c.in-Ok-Step.stop (ap Ok c.in-Ok-Step.field-0-is) in
    absurd (no_step (string_bytes c.in-Ok-Step.task) (string_bytes c.in-Ok-Step.product) (string_bytes c.in-Ok-Step.stop) said)

pub returns-in-Ok-Step-clause-no_command : goal.returns-in-Ok-Step-clause-no_command
returns-in-Ok-Step-clause-no_command g c none =
    let said = c.in-Ok-Step.ensures.step c.in-Ok-Step.task c.in-Ok-Step.product c.in-Ok-Step.stop (ap Ok c.in-Ok-Step.field-0-is) in
    absurd (none.1 (string_bytes c.in-Ok-Step.task) (string_bytes c.in-Ok-Step.product) (string_bytes c.in-Ok-Step.stop) said)

pub returns-in-Ok-Step-clause-nothing_there : goal.returns-in-Ok-Step-clause-nothing_there
returns-in-Ok-Step-clause-nothing_there g c of over told =
    let said = c.in-Ok-Step.ensures.step c.in-Ok-Step.task c.in-Ok-Step.product c.in-Ok-Step.stop (ap Ok c.in-Ok-Step.field-0-is) in
    absurd (step_over c.args.words.now (string_bytes c.in-Ok-Step.task) (string_bytes c.in-Ok-Step.product) (string_bytes c.in-Ok-Step.stop) of said over)

pub returns-in-Ok-Step-clause-longer : goal.returns-in-Ok-Step-clause-longer
returns-in-Ok-Step-clause-longer g c of over told =
    let said = c.in-Ok-Step.ensures.step c.in-Ok-Step.task c.in-Ok-Step.product c.in-Ok-Step.stop (ap Ok c.in-Ok-Step.field-0-is) in
    absurd (step_over c.args.words.now (string_bytes c.in-Ok-Step.task) (string_bytes c.in-Ok-Step.product) (string_bytes c.in-Ok-Step.stop) of said over)

pub returns-in-Ok-Step-clause-faulty : goal.returns-in-Ok-Step-clause-faulty
returns-in-Ok-Step-clause-faulty g c of fault words told =
    let said = c.in-Ok-Step.ensures.step c.in-Ok-Step.task c.in-Ok-Step.product c.in-Ok-Step.stop (ap Ok c.in-Ok-Step.field-0-is) in
    absurd (step_over c.args.words.now (string_bytes c.in-Ok-Step.task) (string_bytes c.in-Ok-Step.product) (string_bytes c.in-Ok-Step.stop) of said (inl words))

pub returns-in-Ok-Step-clause-misdescribed : goal.returns-in-Ok-Step-clause-misdescribed
returns-in-Ok-Step-clause-misdescribed g c of fault words told =
    let said = c.in-Ok-Step.ensures.step c.in-Ok-Step.task c.in-Ok-Step.product c.in-Ok-Step.stop (ap Ok c.in-Ok-Step.field-0-is) in
    absurd (step_over c.args.words.now (string_bytes c.in-Ok-Step.task) (string_bytes c.in-Ok-Step.product) (string_bytes c.in-Ok-Step.stop) of said (inr words))

pub returns-in-Ok-Step-clause-complete : goal.returns-in-Ok-Step-clause-complete
returns-in-Ok-Step-clause-complete g c of value words told no_read no_write =
    let said = c.in-Ok-Step.ensures.step c.in-Ok-Step.task c.in-Ok-Step.product c.in-Ok-Step.stop (ap Ok c.in-Ok-Step.field-0-is) in
    absurd (step_over c.args.words.now (string_bytes c.in-Ok-Step.task) (string_bytes c.in-Ok-Step.product) (string_bytes c.in-Ok-Step.stop) of said (inl words))

pub returns-in-Ok-Step-clause-complete_cuboids : goal.returns-in-Ok-Step-clause-complete_cuboids
returns-in-Ok-Step-clause-complete_cuboids g c of value words told no_read no_write =
    let said = c.in-Ok-Step.ensures.step c.in-Ok-Step.task c.in-Ok-Step.product c.in-Ok-Step.stop (ap Ok c.in-Ok-Step.field-0-is) in
    absurd (step_over c.args.words.now (string_bytes c.in-Ok-Step.task) (string_bytes c.in-Ok-Step.product) (string_bytes c.in-Ok-Step.stop) of said (inr words))

pub returns-in-Ok-Step-clause-step : goal.returns-in-Ok-Step-clause-step
returns-in-Ok-Step-clause-step g c task product stop words =
    let said = c.in-Ok-Step.ensures.step c.in-Ok-Step.task c.in-Ok-Step.product c.in-Ok-Step.stop (ap Ok c.in-Ok-Step.field-0-is) in
    let t = c.as_str-in-Ok-Step.result.now in
    let p = c.as_str-in-Ok-Step-2.result.now in
    let s = c.as_str-in-Ok-Step-3.result.now in
    let these : IsStep c.args.words.now t p s = rw (c.as_str-in-Ok-Step.ensures.value, c.as_str-in-Ok-Step-2.ensures.value, c.as_str-in-Ok-Step-3.ensures.value) said in
    let r = c.run_step_file.ensures in
    along_step (λ (a b d : List ℕ). IsStepRun g.K.StepWork.is_task g.K.StepWork.text
    (files_at (g.F.Files.contents c.args.files.now) (g.F.Files.faults c.args.files.now) (g.F.Files.write_faults c.args.files.now) (g.F.Files.seen c.args.files.now))
    (files_at (g.F.Files.contents c.run_step_file.new.files) (g.F.Files.faults c.run_step_file.new.files) (g.F.Files.write_faults c.run_step_file.new.files) (g.F.Files.seen c.run_step_file.new.files))
    (sink_at (g.S.Sink.written c.args.sink.now) (g.S.Sink.faults c.args.sink.now)) (sink_at (g.S.Sink.written c.run_step_file.new.sink) (g.S.Sink.faults c.run_step_file.new.sink)) a b d c.run_step_file.result)
    c.args.words.now t p s task product stop these words (record {
      which = r.status;
      done = r.done;
      write_fault = λ e. ((r.write_fault e).0, (r.write_fault e).1, r.write_fault_task e);
      silent = r.silent;
      read_fault = λ e. (r.read_fault e, r.read_fault_line e);
      stopped = λ e. ((r.stopped e).0, (r.stopped e).1, r.stopped_task e, r.stopped_line e);
      bad_task = λ e. (r.bad_task e, r.bad_task_line e);
      no_task = r.no_task;
      nothing_there = r.nothing_there;
      complete = r.complete;
      elsewhere = r.elsewhere;
      contents = r.contents;
      write_faults = r.write_faults;
    })

pub returns-in-Err-BadWords-clause-bad_words : goal.returns-in-Err-BadWords-clause-bad_words
returns-in-Err-BadWords-clause-bad_words g c same =
    let none = c.in-Err-BadWords.ensures.bad_words (ap Err c.in-Err-BadWords.field-0-is) in
    none

pub returns-in-Err-BadWords-clause-nothing_there : goal.returns-in-Err-BadWords-clause-nothing_there
returns-in-Err-BadWords-clause-nothing_there g c of over told =
    let none = c.in-Err-BadWords.ensures.bad_words (ap Err c.in-Err-BadWords.field-0-is) in
    absurd (none.0 of over)

pub returns-in-Err-BadWords-clause-longer : goal.returns-in-Err-BadWords-clause-longer
returns-in-Err-BadWords-clause-longer g c of over told =
    let none = c.in-Err-BadWords.ensures.bad_words (ap Err c.in-Err-BadWords.field-0-is) in
    absurd (none.0 of over)

pub returns-in-Err-BadWords-clause-faulty : goal.returns-in-Err-BadWords-clause-faulty
returns-in-Err-BadWords-clause-faulty g c of fault words told =
    let none = c.in-Err-BadWords.ensures.bad_words (ap Err c.in-Err-BadWords.field-0-is) in
    absurd (none.0 of (inl words))

pub returns-in-Err-BadWords-clause-misdescribed : goal.returns-in-Err-BadWords-clause-misdescribed
returns-in-Err-BadWords-clause-misdescribed g c of fault words told =
    let none = c.in-Err-BadWords.ensures.bad_words (ap Err c.in-Err-BadWords.field-0-is) in
    absurd (none.0 of (inr words))

pub returns-in-Err-BadWords-clause-complete : goal.returns-in-Err-BadWords-clause-complete
returns-in-Err-BadWords-clause-complete g c of value words told no_read no_write =
    let none = c.in-Err-BadWords.ensures.bad_words (ap Err c.in-Err-BadWords.field-0-is) in
    absurd (none.0 of (inl words))

pub returns-in-Err-BadWords-clause-complete_cuboids : goal.returns-in-Err-BadWords-clause-complete_cuboids
returns-in-Err-BadWords-clause-complete_cuboids g c of value words told no_read no_write =
    let none = c.in-Err-BadWords.ensures.bad_words (ap Err c.in-Err-BadWords.field-0-is) in
    absurd (none.0 of (inr words))

pub returns-in-Err-BadWords-clause-step : goal.returns-in-Err-BadWords-clause-step
returns-in-Err-BadWords-clause-step g c task product stop words =
    let none = c.in-Err-BadWords.ensures.bad_words (ap Err c.in-Err-BadWords.field-0-is) in
    absurd (none.1 task product stop words)

pub returns-in-Err-Memory-clause-step : goal.returns-in-Err-Memory-clause-step
returns-in-Err-Memory-clause-step g c task product stop words =
    step_memory g.K.StepWork.is_task g.K.StepWork.text
    (files_at (g.F.Files.contents c.args.files.now) (g.F.Files.faults c.args.files.now) (g.F.Files.write_faults c.args.files.now) (g.F.Files.seen c.args.files.now))
    (sink_at (g.S.Sink.written c.args.sink.now) (g.S.Sink.faults c.args.sink.now)) task product stop
