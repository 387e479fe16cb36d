-- How a descriptor is judged, check by check.
use Rattle.std.proofs.Common.{◌≡◌, List, [], ◌∷◌, ◌++◌, Some, None, refl, ap, ◌∙◌}
use Rattle.std.specs.Prelude.{Ok, Err}
use Rattle.std.specs.Option.{option_or}
use Rattle.descriptor_json.specs.Places.{JsonPointer}
use Rattle.descriptor_json.specs.Bytes.{shaped}
use Rattle.descriptor_json.specs.declared.raw.RawDesc.{RawDesc}
use Rattle.desc_checks.specs.Firsts.{first}
use Rattle.desc_checks.specs.Faults.{each, faults}
use Rattle.desc_checks.specs.declared.kind.DescFault.{DescFault}
use Rattle.desc_checks.specs.declared.kind.DescKind.{DescKind}
use Rattle.desc_checks.specs.declared.kind.DescKind.TheVariants as kind
use Rattle.desc_checks.proofs.FirstLemmas.{first_append}
use Rattle.cube_desc.specs.Groups.{bad_groups, too_many_cuboids}
use Rattle.cube_desc.specs.Resolve.{cube_of}
use Rattle.cube_desc.specs.Meaning.{all_faults, judged, described}

some_each : (k : DescKind) (ps : List JsonPointer) (p : JsonPointer) → first ps ≡ Some p → first (each k ps) ≡ Some (record { kind = k; place = p })
some_each k [] p e = cc
some_each k (q ∷ ps) p e = cc

no_each : (k : DescKind) (ps : List JsonPointer) → first ps ≡ None → first (each k ps) ≡ None
no_each k [] e = refl
no_each k (q ∷ ps) e = cc

-- the first of all, by the first of each part
of_all : (r : RawDesc) → first (all_faults r) ≡ option_or (option_or (first (faults r)) (first (each kind.BadGroup (bad_groups r)))) (first (each kind.TooManyCuboids (too_many_cuboids r)))
of_all r =
    first_append (faults r ++ each kind.BadGroup (bad_groups r)) (each kind.TooManyCuboids (too_many_cuboids r))
    ∙ ap (λ o. option_or o (first (each kind.TooManyCuboids (too_many_cuboids r)))) (first_append (faults r) (each kind.BadGroup (bad_groups r)))

pub early : (r : RawDesc) (f : DescFault) → first (faults r) ≡ Some f → described (shaped r) ≡ Err f
early r f e =
    let all : first (all_faults r) ≡ Some f = of_all r ∙ rw e refl in
    ap (judged r) all

pub bad_group_first : (r : RawDesc) (p : JsonPointer) → first (faults r) ≡ None → first (bad_groups r) ≡ Some p → described (shaped r) ≡ Err (record { kind = kind.BadGroup; place = p })
bad_group_first r p e b =
    let all : first (all_faults r) ≡ Some (record { kind = kind.BadGroup; place = p }) = of_all r ∙ rw (e, some_each kind.BadGroup (bad_groups r) p b) refl in
    ap (judged r) all

pub too_many_first : (r : RawDesc) (p : JsonPointer) → first (faults r) ≡ None → first (bad_groups r) ≡ None → first (too_many_cuboids r) ≡ Some p
    → described (shaped r) ≡ Err (record { kind = kind.TooManyCuboids; place = p })
too_many_first r p e b t =
    let all : first (all_faults r) ≡ Some (record { kind = kind.TooManyCuboids; place = p }) =
    of_all r ∙ rw (e, no_each kind.BadGroup (bad_groups r) b, some_each kind.TooManyCuboids (too_many_cuboids r) p t) refl in
    ap (judged r) all

pub faultless : (r : RawDesc) → first (faults r) ≡ None → first (bad_groups r) ≡ None → first (too_many_cuboids r) ≡ None → described (shaped r) ≡ Ok (cube_of r)
faultless r e b t =
    let all : first (all_faults r) ≡ None = of_all r ∙ rw (e, no_each kind.BadGroup (bad_groups r) b, no_each kind.TooManyCuboids (too_many_cuboids r) t) refl in
    ap (judged r) all
