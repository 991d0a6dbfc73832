-- The task of an accepted site file of bytes is lawful. Assumes nothing.
use Rattle.std.proofs.Common.{◌≡◌, ℕ, zero, suc, ◌≤◌, false, ◌||◌, eqb, ltb, List, [], ◌∷◌, Some, unwrap_or, sym, subst, ⊎_elim, arith}
use Rattle.std.proofs.lemmas.Bool.{cases_eq}
use Rattle.std.proofs.lemmas.Bool.Decides.{nat_tests}
use Rattle.task.specs.Limits.{cost_limit}
use Rattle.task.specs.Task.{Lawful, price}
use Rattle.site.specs.Files.{Accepted, written}
use Rattle.site.specs.Saying.{task_of}
use Rattle.site.specs.SiteFile.{bytes_of, site_file, describes}
use Rattle.site.specs.declared.command.Command.{Command}
use Rattle.site.specs.declared.command.Command.TheVariants.{Sizes, Facts, Goal, Cost, Move, Loop, End}
use Rattle.site.proofs.Changing.{put_at, put_off}
use Rattle.site.proofs.Limiting.{fine, limited, moves_land}
use Rattle.astar.specs.Promises.{Bytes}
use Rattle.astar.proofs.FileCases.{bytes_parts}

-- two bytes make up a cost
cost_low : (l n : ℕ) → Bytes (bytes_of (Cost l n)) → n ≤ cost_limit
cost_low l n b = let high = b.1.1.0 in omega arith

cheap_costs : (cs : List Command) → Bytes (written site_file cs) → (l : ℕ) → unwrap_or ((describes cs).cost l) 0 ≤ cost_limit
cheap_costs [] b l = omega arith
cheap_costs (c ∷ cs) b l = go c (bytes_parts (written site_file cs) (bytes_of c) b).1 (cheap_costs cs (bytes_parts (written site_file cs) (bytes_of c) b).0 l)
  where
    go : (c : Command) → Bytes (bytes_of c) → unwrap_or ((describes cs).cost l) 0 ≤ cost_limit → unwrap_or ((describes (c ∷ cs)).cost l) 0 ≤ cost_limit
    go (Sizes n m) b low = low
    go (Facts j n s) b low = low
    go (Goal j x) b low = low
    go (Cost k n) b low =
        ⊎_elim
        (λ at. subst (λ o. unwrap_or o 0 ≤ cost_limit) (sym (put_at k (Some n) (describes cs).cost l at)) (cost_low k n b))
        (λ off. subst (λ o. unwrap_or o 0 ≤ cost_limit) (sym (put_off k (Some n) (describes cs).cost l off)) low)
        (cases_eq l k)
    go (Move j m x y) b low = low
    go (Loop j m) b low = low
    go End b low = low

-- the facts of every factor are given before the end
all_declared : (m n : ℕ) → (eqb m 0 || ltb n m) ≡ false → m ≤ n
all_declared m n e = grind (arith, nat_tests)

module _ (file : List ℕ) (a : Accepted site_file file) (bytes : Bytes file) where
  commands_bytes : Bytes (written site_file a.ended.before)
  commands_bytes = (bytes_parts (written site_file a.ended.before) _ (subst Bytes a.ended.came.text bytes)).0

  cheap : (l : ℕ) → price (task_of a) l ≤ cost_limit
  cheap zero = omega arith
  cheap (suc l) = cheap_costs a.ended.before commands_bytes (suc l)

  pub task_lawful : Lawful (task_of a)
  task_lawful =
      let sound = a.ended.came.sound in
      let all : (task_of a).factors ≤ (describes a.ended.before).declared = all_declared (task_of a).factors (describes a.ended.before).declared (fine (describes a.ended.before) End a.ended.ends).0 in
      record {
        starts = λ j low. (limited a.ended.before sound).starts j (omega arith);
        lands = λ j l x y low known fact moves. moves_land a.ended.before sound j l x y fact moves;
        cheap = λ l known. cheap l;
      }
