use Rattle.std.proofs.Common.{◌≡◌, ◌+◌, ◌∙◌, ℕ, [], ◌∷◌, ◌++◌, length, sym, subst, arith}
use Rattle.entry_log.specs.Kept.{Keeps}
use Rattle.entry_log.proofs.Runs.{appended, opening, staging}
use Rattle.entry_log.proofs.log.Log.add.Goals as goal

-- the first write leaves the log as it was
pub returns-in_err-stage-clause-crash : goal.returns-in_err-stage-clause-crash
returns-in_err-stage-clause-crash g c = λ bodies keeps.
    let here = subst (λ (n : ℕ). Keeps (g.D.Disk.content c.args.disk.now) (g.D.Disk.crash_image c.args.disk.now) n bodies) (sym c.self.view_is) keeps in
    staging g.D.Disk.clock g.D.Disk.image_since g.D.Disk.content g.D.Disk.crash_image c.args.disk.now c.stage.new.disk c.self.inside.gate bodies c.args.body.now c.as_slice.result.now here c.stage.ensures.crash

-- the second leaves it so, or with the entry
pub returns-in_err-unlock-clause-crash : goal.returns-in_err-unlock-clause-crash
returns-in_err-unlock-clause-crash g c = λ bodies keeps.
    let here = subst (λ (n : ℕ). Keeps (g.D.Disk.content c.args.disk.now) (g.D.Disk.crash_image c.args.disk.now) n bodies) (sym c.self.view_is) keeps in
    opening g.D.Disk.clock g.D.Disk.image_since g.D.Disk.content g.D.Disk.crash_image c.args.disk.now c.stage.new.disk c.unlock.new.disk c.self.inside.gate bodies c.args.body.now c.as_slice.result.now here (c.as_slice.ensures.value ∙ c.in_ok-entry.ensures.text) c.in_ok-entry.ensures.fits c.in_ok-stage.ensures.kept c.stage.ensures.crash c.unlock.ensures.crash

pub returns-clause-crash : goal.returns-clause-crash
returns-clause-crash g c = λ bodies keeps.
    let here = subst (λ (n : ℕ). Keeps (g.D.Disk.content c.args.disk.now) (g.D.Disk.crash_image c.args.disk.now) n bodies) (sym c.self.view_is) keeps in
    opening g.D.Disk.clock g.D.Disk.image_since g.D.Disk.content g.D.Disk.crash_image c.args.disk.now c.stage.new.disk c.unlock.new.disk c.self.inside.gate bodies c.args.body.now c.as_slice.result.now here (c.as_slice.ensures.value ∙ c.in_ok-entry.ensures.text) c.in_ok-entry.ensures.fits c.in_ok-stage.ensures.kept c.stage.ensures.crash c.unlock.ensures.crash

-- and then it has the entry
pub returns-clause-durable : goal.returns-clause-durable
returns-clause-durable g c = λ bodies keeps.
    let here = subst (λ (n : ℕ). Keeps (g.D.Disk.content c.args.disk.now) (g.D.Disk.crash_image c.args.disk.now) n bodies) (sym c.self.view_is) keeps in
    let behind : c.self.inside.gate + length c.as_slice.result.now ≡ c.in-Some.next = omega (arith, c.in-Some.ensures, c.len.ensures, c.as_slice.ensures.len) in
    subst (λ (n : ℕ). Keeps (g.D.Disk.content c.unlock.new.disk) (g.D.Disk.crash_image c.unlock.new.disk) n (bodies ++ c.args.body.now ∷ [])) behind
    (appended g.D.Disk.clock g.D.Disk.image_since g.D.Disk.content g.D.Disk.crash_image c.args.disk.now c.stage.new.disk c.unlock.new.disk c.self.inside.gate bodies c.args.body.now c.as_slice.result.now here (c.as_slice.ensures.value ∙ c.in_ok-entry.ensures.text) c.in_ok-entry.ensures.fits c.in_ok-stage.ensures.kept c.in_ok-unlock.ensures.kept)
