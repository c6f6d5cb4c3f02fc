-- Keys are compared as their lists are.
use Rattle.std.proofs.Common.{◌≡◌, ◌∙◌, sym, refl, ℕ, zero, suc, ◌<◌, pos, Bool, true, false, nat_lt, ◌==◌, cond, arith}
use Rattle.std.specs.Cmp.Lexicographic.{slice_cmp}
use Rattle.std.specs.Ordering.{int_cmp, nat_cmp, ordering_then}
use Rattle.std.specs.declared.cmp.Ordering.{Ordering}
use Rattle.std.specs.declared.cmp.Ordering.TheVariants.{Less, Equal, Greater}
use Rattle.play_meaning.specs.Order.{minus}
use Rattle.rule_order.specs.KeyLists.{key_list}
use Rattle.rule_order.specs.contracts.key.KeyOrd.TheImpl as ord
use Rattle.rule_order.specs.declared.key.Key.{Key}
use Rattle.rule_order.specs.declared.key.Key.TheVariants as key

-- numbers are compared alike, and their negatives the other way round
three : (a b : ℕ) (lt eq gt : Bool) → nat_lt a b ≡ lt → (a == b) ≡ eq → nat_lt b a ≡ gt → cond lt Less (cond eq Equal Greater) ≡ cond lt Less (cond gt Greater Equal)
three a b true eq gt l e g = refl
three a b false true true l e g = absurd (grind (arith, l, e, g))
three a b false true false l e g = refl
three a b false false true l e g = refl
three a b false false false l e g = absurd (grind (arith, l, e, g))

pos_cmp : (a b : ℕ) → nat_cmp a b ≡ int_cmp (pos a) (pos b)
pos_cmp a b = three a b (nat_lt a b) (a == b) (nat_lt b a) refl refl refl

above : (a b : ℕ) (lt eq : Bool) → nat_lt a b ≡ lt → (a == b) ≡ eq → b < a → cond lt Less (cond eq Equal Greater) ≡ Greater
above a b true eq l e h = absurd (grind (arith, l, h))
above a b false true l e h = absurd (grind (arith, e, h))
above a b false false l e h = refl

below : (a b : ℕ) (lt eq : Bool) → nat_lt a b ≡ lt → a < b → cond lt Less (cond eq Equal Greater) ≡ Less
below a b true eq l h = refl
below a b false eq l h = absurd (grind (arith, l, h))

equal : (a b : ℕ) (lt eq : Bool) → nat_lt a b ≡ lt → (a == b) ≡ eq → a ≡ b → cond lt Less (cond eq Equal Greater) ≡ Equal
equal a b true eq l e h = absurd (grind (arith, l, h))
equal a b false true l e h = refl
equal a b false false l e h = absurd (grind (arith, e, h))

pub nat_equal : (a b : ℕ) → a ≡ b → nat_cmp a b ≡ Equal
nat_equal a b same = equal a b (nat_lt a b) (a == b) refl refl same

-- one more of each
more : (a b : ℕ) (lt eq gt : Bool) → nat_lt a b ≡ lt → (a == b) ≡ eq → nat_lt b a ≡ gt → nat_cmp (suc a) (suc b) ≡ cond lt Less (cond eq Equal Greater)
more a b true eq gt l e g = below (suc a) (suc b) (nat_lt (suc a) (suc b)) (suc a == suc b) refl (grind (arith, l))
more a b false true gt l e g = nat_equal (suc a) (suc b) (grind (arith, e))
more a b false false true l e g = above (suc a) (suc b) (nat_lt (suc a) (suc b)) (suc a == suc b) refl refl (grind (arith, g))
more a b false false false l e g = absurd (grind (arith, l, e, g))

minus_cmp : (a b : ℕ) → nat_cmp b a ≡ int_cmp (minus a) (minus b)
minus_cmp zero zero = refl
minus_cmp zero (suc b) = above (suc b) 0 (nat_lt (suc b) 0) (suc b == 0) refl refl (omega arith)
minus_cmp (suc a) zero = below 0 (suc a) (nat_lt 0 (suc a)) (0 == suc a) refl (omega arith)
minus_cmp (suc a) (suc b) = more b a (nat_lt b a) (b == a) (nat_lt a b) refl refl refl ∙ three b a (nat_lt b a) (b == a) (nat_lt a b) refl refl refl

then_equal : (o : Ordering) → ordering_then o Equal ≡ o
then_equal Less = refl
then_equal Equal = refl
then_equal Greater = refl

pub keys_alike : (a b : Key) → (ord.ghosts).cmp a b ≡ slice_cmp int_cmp (key_list a) (key_list b)
keys_alike (key.First s) (key.First t) = minus_cmp s.0 t.0 ∙ sym (then_equal (int_cmp (minus s.0) (minus t.0)))
keys_alike (key.First s) (key.InOrder a n m p number) = refl
keys_alike (key.First s) (key.Last t) = refl
keys_alike (key.InOrder a n m p number) (key.First s) = refl
keys_alike (key.InOrder a n m p number) (key.InOrder b o q r other) =
    λ i. ordering_then (minus_cmp a.0 b.0 i) (ordering_then (minus_cmp n.0 o.0 i) (ordering_then (minus_cmp m.0 q.0 i) (ordering_then (minus_cmp p.0 r.0 i)
    ((pos_cmp number other ∙ sym (then_equal (int_cmp (pos number) (pos other)))) i))))
keys_alike (key.InOrder a n m p number) (key.Last s) = refl
keys_alike (key.Last s) (key.First t) = refl
keys_alike (key.Last s) (key.InOrder a n m p number) = refl
keys_alike (key.Last s) (key.Last t) = pos_cmp s t ∙ sym (then_equal (int_cmp (pos s) (pos t)))
