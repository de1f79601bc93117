-- Where a load of the top leads.
use Rattle.std.proofs.Common.{◌≡◌, ◌≢◌, ℕ, ◌<◌, ◌≤◌, Bool, true, false, cond, List, refl, eq-eqb, ne_eqb}
use Rattle.std.specs.Prelude.{Err}
use Rattle.bounded_model.specs.declared.answers.TakeRefused.TheVariants.{Empty, Closed, Spent, Shut}
use Rattle.machine.proofs.Tests.{leb_yes, leb_not}
use Rattle.stack_machine.specs.Machine.{no_node, takes}
use Rattle.treiber_stack.specs.Prelude.{AnswerPut, FreeWord, LinkToTop, LoadFreeLink, LoadTopToRefuse, NULL, PutFull, PutSpent, Putting, Taking}
use Rattle.treiber_stack.specs.Prelude.{TopWord, at_load_free, at_load_top, at_load_top_to_refuse, at_load_top_to_take, ends, fields_of, index_of}
use Rattle.treiber_stack.specs.Prelude.{mark_of, second_of, tag_of}
use Rattle.treiber_stack.specs.declared.code.refusing.Barred.TheVariants.{Closed as BarredClosed, Spent as BarredSpent}
use Rattle.treiber_stack.specs.code.Refusing.{AllowsPut, AllowsTake, RefusesPut, RefusesTake}

module _ {T : Type 0} (limit w : ℕ) where
  -- a put
  pub bars_closed : mark_of w ≡ true → RefusesPut T limit w BarredClosed
  bars_closed e = record { with_nodes = λ put. rw e refl; without = λ values. rw e refl }

  pub bars_spent : (t : ℕ) → t ≡ tag_of w → mark_of w ≡ false → limit ≤ tag_of w → RefusesPut T limit w (BarredSpent t)
  bars_spent t is e h = record {
    with_nodes = λ put. rw is (rw e (rw (leb_yes limit (tag_of w) h) refl));
    without = λ values. rw is (rw e (rw (leb_yes limit (tag_of w) h) refl));
  }

  pub allows_link : (put : Putting T) → AllowsPut limit w → at_load_top limit put (fields_of w) ≡ LinkToTop put (fields_of w)
  allows_link put a = rw a.0 (rw (leb_not limit (tag_of w) a.1) refl)

  pub allows_full : (values : List T) → AllowsPut limit w → at_load_top_to_refuse limit values (fields_of w) ≡ ends (AnswerPut (Err (PutFull values)))
  allows_full values a = rw a.0 (rw (leb_not limit (tag_of w) a.1) refl)

  -- the top of the free nodes
  pub free_null : (put : Putting T) → index_of w ≡ NULL → at_load_free limit put (fields_of w) ≡ no_node put (LoadTopToRefuse put.values)
  free_null put z = rw (eq-eqb (index_of w) NULL z) refl

  pub free_spent : (put : Putting T) (t : ℕ) → t ≡ tag_of w → index_of w ≢ NULL → limit ≤ tag_of w → at_load_free limit put (fields_of w) ≡ no_node put (ends (AnswerPut (Err (PutSpent put.values FreeWord t))))
  free_spent put t is ne h = rw is (rw (ne_eqb (index_of w) NULL ne) (rw (leb_yes limit (tag_of w) h) refl))

  pub free_goes : (put : Putting T) → index_of w ≢ NULL → tag_of w < limit → at_load_free limit put (fields_of w) ≡ LoadFreeLink put (fields_of w)
  free_goes put ne h = rw (ne_eqb (index_of w) NULL ne) (rw (leb_not limit (tag_of w) h) refl)

  -- a take
  pub refuses_shut : second_of w ≡ true → RefusesTake T limit w Shut
  refuses_shut e taking = rw e refl

  pub refuses_none : (b : Bool) → second_of w ≡ false → index_of w ≡ NULL → mark_of w ≡ b → RefusesTake T limit w (cond b Closed Empty)
  refuses_none b e z m taking = rw e (rw (eq-eqb (index_of w) NULL z) (rw m refl))

  pub refuses_spent : (t : ℕ) → t ≡ tag_of w → second_of w ≡ false → index_of w ≢ NULL → limit ≤ tag_of w → RefusesTake T limit w (Spent TopWord t)
  refuses_spent t is e ne h taking = rw is (rw e (rw (ne_eqb (index_of w) NULL ne) (rw (leb_yes limit (tag_of w) h) refl)))

  pub allows_take : (taking : Taking) → AllowsTake limit w → at_load_top_to_take {T = T} limit taking (fields_of w) ≡ takes taking (fields_of w)
  allows_take taking a = rw a.0 (rw (ne_eqb (index_of w) NULL a.1) (rw (leb_not limit (tag_of w) a.2) refl))
