use Rattle.std.proofs.Common.{◌≡◌, ◌-◌, ◌<◌, length, refl, sym, ap, ◌∙◌, subst, arith}
use Rattle.std.proofs.lemmas.Option.{slice_get_read}
use Rattle.range_list.specs.Ranges.{IsFree}
use Rattle.run_history.specs.Invariants.{ranges_of}
use Rattle.run_history.specs.Sets.{Segment}
use Rattle.run_state.specs.Numbered.{after_swap}
use Rattle.run_state.proofs.Turns.{current_within}
use Rattle.fixed_state.specs.Ready.{ReadyModel}
use Rattle.fixed_state.specs.States.{FixedEntry, StandsFor, segment_at}
use Rattle.fixed_state.proofs.EndFacts.{entry_place_of, free_now, placed_now, segment_now, there_is}
use Rattle.fixed_state.proofs.TaskFacts.{some_is}
use Rattle.fixed_state.proofs.ends.keep_cells.Goals as goal

pub overflow_sub-place : goal.overflow_sub-place
overflow_sub-place g c = let within = current_within c.args.state.now.jobs.items c.args.job c.args.attempt c.requires.current in let pos : 0 < c.args.job = within.0 in omega arith

pub index-entry-requires : goal.index-entry-requires
index-entry-requires g c = let within = current_within c.args.state.now.jobs.items c.args.job c.args.attempt c.requires.current in let lt : c.args.job - 1 < length c.args.state.now.jobs.items = within.1 in omega (arith, c.args.state.now.jobs.ok.0)

pub next_ready-requires-clause-free : goal.next_ready-requires-clause-free
next_ready-requires-clause-free g c =
    let t = there_is c.args.state.now.jobs.items c.args.job c.args.attempt c.requires.current in
    let within = current_within c.args.state.now.jobs.items c.args.job c.args.attempt c.requires.current in
    let read = slice_get_read c.args.state.now.jobs.items _ (c.args.job - 1) c.index-entry.result.now refl within.1 c.index-entry.ensures in
    let same : t.entry ≡ c.index-entry.result.now = some_is t.entry c.index-entry.result.now (sym (entry_place_of c.args.state.now.jobs.items c.args.job t.entry t.at) ∙ read) in
    subst (λ (entry : FixedEntry). IsFree (ranges_of c.args.state.now.ready.set.segments) entry.range) same
    (free_now g.H.Honest.honest c.args.state.now c.args.job c.args.attempt c.requires.fixed_state t)

pub end_finished-requires-clause-swapped : goal.end_finished-requires-clause-swapped
end_finished-requires-clause-swapped g c = λ w i s e.
    let stands : StandsFor w c.args.state.now = record { workers = i.workers; line = i.line; loaded = i.loaded; jobs = i.jobs; queue = i.queue; steps = i.steps; version = i.version; ready = i.ready; waiting = i.waiting; asked = i.asked; accepted = i.accepted; answered = i.answered } in
    let t = there_is c.args.state.now.jobs.items c.args.job c.args.attempt c.requires.current in
    let within = current_within c.args.state.now.jobs.items c.args.job c.args.attempt c.requires.current in
    let read = slice_get_read c.args.state.now.jobs.items _ (c.args.job - 1) c.index-entry.result.now refl within.1 c.index-entry.ensures in
    let same : t.entry ≡ c.index-entry.result.now = some_is t.entry c.index-entry.result.now (sym (entry_place_of c.args.state.now.jobs.items c.args.job t.entry t.at) ∙ read) in
    c.in-Ok.ensures.set
    ∙ ap (λ (segment : Segment). after_swap segment c.args.state.now.ready.set)
    (sym (segment_now g.H.Honest.honest c.args.state.now c.args.job c.args.attempt c.requires.fixed_state t w s stands e ∙ ap (λ (entry : FixedEntry). segment_at entry c.args.job) same))

pub returns-in-Ok-clause-cells : goal.returns-in-Ok-clause-cells
returns-in-Ok-clause-cells g c = λ w i s e.
    let t = there_is c.args.state.now.jobs.items c.args.job c.args.attempt c.requires.current in
    let within = current_within c.args.state.now.jobs.items c.args.job c.args.attempt c.requires.current in
    let read = slice_get_read c.args.state.now.jobs.items _ (c.args.job - 1) c.index-entry.result.now refl within.1 c.index-entry.ensures in
    let same : t.entry ≡ c.index-entry.result.now = some_is t.entry c.index-entry.result.now (sym (entry_place_of c.args.state.now.jobs.items c.args.job t.entry t.at) ∙ read) in
    let segment = segment_now g.H.Honest.honest c.args.state.now c.args.job c.args.attempt c.requires.fixed_state t w s i e ∙ ap (λ (entry : FixedEntry). segment_at entry c.args.job) same in
    let after = (c.end_finished.ensures.state w (record { workers = i.workers; line = i.line; loaded = i.loaded; jobs = i.jobs; queue = i.queue; steps = i.steps; version = i.version; ready = i.ready; waiting = i.waiting; asked = i.asked; accepted = i.accepted; answered = i.answered })).ready ∙ ap (λ (r : ReadyModel). r.set.segments) c.end_finished.ensures.ready in
    placed_now c.args.cells _ _ _ _ _ c.in-Ok.next segment i.ready after (ap (λ (r : ReadyModel). r.cells) c.end_finished.ensures.ready) c.in-Ok.ensures.placed
