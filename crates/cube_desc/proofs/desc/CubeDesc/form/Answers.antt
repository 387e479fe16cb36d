use Rattle.std.proofs.Common.{◌≡◌, ◌<◌, ℕ, length, subst, sym}
use Rattle.std.specs.Prelude.{All, Result, Ok, Err, IfOk}
use Rattle.cube_val.specs.declared.form.TableForm.{TableForm}
use Rattle.cube_desc.specs.Forms.{form_of}
use Rattle.cube_desc.proofs.FormFacts.{form_key, form_no_null}
use Rattle.cube_desc.proofs.SoundFacts.{sound}
use Rattle.cube_desc.proofs.desc.CubeDesc.form.Goals as goal

-- what holds of the form holds of what is answered
of_form : {E : Type 0} (P : TableForm → Type 0) (form : TableForm) (r : Result TableForm E) → P form → IfOk r (λ f. f ≡ form) → IfOk r P
of_form P form (Ok f) p e = subst P (sym e) p
of_form P form (Err x) p e = tt

pub returns-clause-form : goal.returns-clause-form
returns-clause-form c = rw (← c.self.view_is) c.form_of.ensures

pub returns-clause-no_null : goal.returns-clause-no_null
returns-clause-no_null c =
    of_form (λ (f : TableForm). length f.no_null ≡ length f.cols) (form_of c.self.inside.parts c.args.table) c.form_of.result
    (form_no_null c.self.inside.parts c.args.table) c.form_of.ensures

pub returns-clause-key : goal.returns-clause-key
returns-clause-key c =
    of_form (λ (f : TableForm). All (λ (place : ℕ). place < length f.cols) f.key) (form_of c.self.inside.parts c.args.table) c.form_of.result
    (form_key c.self.inside.parts (sound c.self.inside.source.items c.self.inside.parts c.self.invariant) c.args.table) c.form_of.ensures
