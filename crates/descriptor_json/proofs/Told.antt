-- What a reader of an object tells where it stops at a key, and where it comes to the end.
use Rattle.std.proofs.Common.{◌≡◌, true, Option, Some, None, refl}
use Rattle.std.specs.Prelude.{Err, is_some}
use Rattle.descriptor_json.specs.Places.{JsonPointer}
use Rattle.descriptor_json.specs.Readings.{Reading, after, if_there}
use Rattle.descriptor_json.specs.Tells.{Tells}
use Rattle.descriptor_json.specs.declared.reading.Stop.{Stop}
use Rattle.descriptor_json.specs.declared.reading.Stop.TheVariants.{At, Memory}

-- it stops at the key that is read next
pub stops : {X A B : Type 0} (o : Option X) (p : JsonPointer) (stop : Stop) (r : Reading A) (next : A → Reading B) → is_some o ≡ true
    → Tells {A = A} (Err stop) r → Tells {A = B} (Err stop) (if_there o p (λ _. after r next))
stops None p stop r next h t = cc
stops (Some x) p (At q) r next h t = rw t refl
stops (Some x) p Memory r next h t = tt

-- it comes to the end
pub ends : {X B : Type 0} (o : Option X) (p : JsonPointer) (r : Reading B) → is_some o ≡ true → if_there o p (λ _. r) ≡ r
ends None p r h = cc
ends (Some x) p r h = refl
