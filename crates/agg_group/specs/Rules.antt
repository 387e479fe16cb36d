-- What an aggregation group says: the dimensions that it includes, its three kinds of rule, and how many dimensions a cuboid of it may have.
use Rattle.std.specs.Prelude.{ℕ, ◌<◌, ◌≤◌, Bool, List, ◌∷◌, ◌++◌, map, All, Contains, IsTrue, Option, Some, None}
use Rattle.smallvec.specs.SmallVec.{SmallVec}
use Rattle.agg_group.specs.Sets.{size_of, KeepsHierarchy, KeepsJoint}

pub record Rules : Type 0 where
  pub includes : List ℕ
  pub mandatory : List ℕ
  pub hierarchies : List (List ℕ)
  pub joints : List (List ℕ)
  pub cap : Option ℕ

-- the dimensions of each list
abbrev pub lists_of : List (SmallVec ℕ) → List (List ℕ)
lists_of lists = map (λ l. l.items) lists

-- the rules that these lists say
abbrev pub rules_of : List ℕ → List ℕ → List (SmallVec ℕ) → List (SmallVec ℕ) → Option ℕ → Rules
rules_of includes mandatory hierarchies joints cap = record {
  includes = includes;
  mandatory = mandatory;
  hierarchies = lists_of hierarchies;
  joints = lists_of joints;
  cap = cap;
}

-- the lists of the rules: the mandatory dimensions, each hierarchy, each joint
abbrev pub rule_lists : Rules → List (List ℕ)
rule_lists g = g.mandatory ∷ (g.hierarchies ++ g.joints)

-- a mask has room for dimensions below 64
abbrev pub AreDimensions : List ℕ → Type 0
AreDimensions ds = All (λ d. d < 64) ds

pub record HasDimensions (g : Rules) : Type 0 where
  pub includes : AreDimensions g.includes
  pub mandatory : AreDimensions g.mandatory
  pub hierarchies : All AreDimensions g.hierarchies
  pub joints : All AreDimensions g.joints

-- the set has at most so many dimensions
abbrev pub IsCapped : Option ℕ → (ℕ → Bool) → Type 0
IsCapped None s = Unit {0}
IsCapped (Some most) s = size_of s ≤ most

-- The group gives the set as a cuboid: a non-empty set of its includes with every mandatory dimension, that keeps each hierarchy and each joint, and has no more dimensions than the cap.
pub record IsGiven (g : Rules) (s : ℕ → Bool) : Type 0 where
  pub some : (d : ℕ) × IsTrue (s d)
  pub chosen : (d : ℕ) → IsTrue (s d) → Contains g.includes d
  pub mandatory : All (λ d. IsTrue (s d)) g.mandatory
  pub hierarchies : All (KeepsHierarchy s) g.hierarchies
  pub joints : All (KeepsJoint s) g.joints
  pub capped : IsCapped g.cap s
