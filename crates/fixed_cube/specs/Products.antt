-- Answers on products.
use Rattle.fixed_cube.specs.declared.products.ProductFault.{ProductFault}
use Rattle.fixed_cube.specs.declared.products.ProductFault.TheVariants.{Damaged, Memory}

-- where the product is damaged, and not where memory was wanted
abbrev pub IfDamaged : ProductFault → Type 0 → Type 0
IfDamaged Damaged P = P
IfDamaged Memory P = Unit {0}
