-- Password entries keep a session that fits fitting: one begins on a protected line, whose password has a digit at least, keeps fewer digits than
-- the password has, and ends in browsing or in the line's submenu.
use Prim.Native.Nat.{ℕ, zero, suc, ◌+◌, ◌≤◌, ◌<◌}
use mathlib.Core.Path.{◌≡◌, refl, ◌∙◌}
use mathlib.Core.Bool.{true}
use mathlib.Core.List.{List}
use native.Mathlib.Omega.{arith}
use native.Mathlib.Decide.{dec_lt}
use native.Mathlib.Numerals.{add-one}
use lib.ListN.{length, get_or, set, length-set, get_or-eq_default}
use lib.Seq.{get_or-set_same, get_or-set_other, set_out}
use borrow.Author.Tests.{leb-true, le-leb, lt-ltb}
use Rattle.laws.specs.Bytes.{byte_at}
use Rattle.laws.proofs.Cases.{and_i, and_l, and_r}
use Rattle.cmf.specs.Grammar.{WellFormed}
use Rattle.session.specs.Fits.{shape_fits, cursor_line, cursor_head, digits_to, entry_fits, mode_fits}
use Rattle.session.specs.Answers.{with_idle}
use Rattle.session.specs.Seconds.{later, entry_second}
use Rattle.session.specs.Browsing.{right_step}
use Rattle.session.specs.Passwords.{entry_over, last_digit, digit_step, entry_step}
use Rattle.session.specs.declared.session.Mode.TheVariants as mode
use Rattle.session.specs.declared.session.Session.{Session}
use Rattle.journal.proofs.Reached.{cursor_line_in}
use Rattle.protected.proofs.Passwords.{PasswordThere, head_guarded}
use Rattle.promises.proofs.Fitting.{Good, fits_of, Keeps, by_keeps, idle_good, doing_good, browsing_good, descended_keeps}

-- ---- digits typed

-- a digit after others leaves them
digits_before : (ds : List ℕ) (n m d : ℕ) → n ≤ m → digits_to ds n ≡ true → digits_to (set ds m d) n ≡ true
unfolding digits_to
digits_before ds zero m d l h = refl
digits_before ds (suc n) m d l h =
    and_i (digits_before ds n m d (omega arith) (and_l _ _ h)) (rw (get_or-set_other ds m n d 0 (λ q. omega arith)) (and_r _ _ h))

-- and is one more
digits_more : (ds : List ℕ) (n d : ℕ) → d ≤ 9 → digits_to ds n ≡ true → digits_to (set ds n d) (n + 1) ≡ true
unfolding digits_to
digits_more ds n d k h = rw add-one (and_i (digits_before ds n n d (omega arith) h) (le-leb (get_or (set ds n d) n 0) 9 (go (dec_lt n (length ds)))))
  where
    go : Dec (n < length ds) → get_or (set ds n d) n 0 ≤ 9
    go (yes l) = rw (get_or-set_same ds n d 0 l) k
    go (no l) = let out : length ds ≤ n = omega arith in rw (set_out ds n d out, get_or-eq_default ds 0 out) (omega arith)

-- ---- the steps, for a session that fits an image which is well formed

module _ (im : List ℕ) (c l : ℕ) (shape : shape_fits c l ≡ true) (extent : ℕ) (w : WellFormed im extent) where
  -- the password of the cursor line
  password_there : (s : Session) → Good im c l s → (cursor_head im s.here).protected ≡ true → PasswordThere im (cursor_head im s.here).password.0
  unfolding cursor_head
  password_there s g p = (head_guarded im (cursor_line im s.here)).guarded p (cursor_line_in im extent w s (fits_of im c l s shape g)).line.good

  -- a protected line has a submenu
  submenu_there : (s : Session) → (cursor_head im s.here).protected ≡ true → (cursor_head im s.here).submenu ≡ true
  unfolding cursor_head
  submenu_there s p = (head_guarded im (cursor_line im s.here)).submenu p

  -- RIGHT
  pub right_keeps : (s : Session) → Good im c l s → s.mode ≡ mode.Browsing → Keeps im c l (right_step im s)
  unfolding right_step mode_fits entry_fits cursor_head digits_to
  right_keeps s g b =
      by_keeps im c l _
      (λ m. by_keeps im c l _
      (λ p. record {
        good =
            doing_good im c l s g (mode.Password 0) s.work s.typed g.sized.cells g.sized.typed
            (and_i p (and_i (lt-ltb 0 (byte_at im (cursor_head im s.here).password.0) (password_there s g p).some) refl));
      })
      (λ _. descended_keeps im c l s g b shape m))
      (λ _. record { good = g })

  -- ---- an entry of n digits

  module _ (s : Session) (g : Good im c l s) (n : ℕ) (f : entry_fits im (cursor_line im s.here) s.typed n ≡ true) where
    -- the line is protected, and the digits typed are digits
    protected_here : (cursor_head im s.here).protected ≡ true
    unfolding entry_fits cursor_head
    protected_here = and_l _ _ f

    typed_digits : digits_to s.typed n ≡ true
    unfolding entry_fits
    typed_digits = and_r _ _ (and_r _ _ f)

    module _ (d : ℕ) (k : d ≤ 9) where
      -- the digits typed, one more
      abbrev typed : List ℕ
      typed = set s.typed n d

      -- the array is as long as it was
      eight : length typed ≡ 8
      eight = length-set s.typed n d ∙ g.sized.typed

      -- the last digit
      last_keeps : Keeps im c l (last_digit im s (cursor_head im s.here) typed (n + 1))
      unfolding last_digit
      last_keeps =
          let z = browsing_good im c l s g typed eight in
          by_keeps im c l _ (λ _. descended_keeps im c l (entry_over s typed) z refl shape (submenu_there s protected_here)) (λ _. record { good = z })

      -- a digit, the last or another
      digit_keeps : Keeps im c l (digit_step im s (cursor_head im s.here) n d)
      unfolding digit_step mode_fits entry_fits cursor_head
      digit_keeps =
          by_keeps im c l _
          (λ h. record {
            good =
                doing_good im c l s g (mode.Password (n + 1)) s.work typed g.sized.cells eight
                (and_i protected_here (and_i h (digits_more s.typed n d k typed_digits)));
          })
          (λ _. last_keeps)

    -- a second ends it, or counts
    wait_keeps : Keeps im c l (entry_second im s)
    unfolding entry_second
    wait_keeps =
        let z = idle_good im c l s g (later s.idle) in
        by_keeps im c l _ (λ _. record { good = browsing_good im c l _ z s.typed g.sized.typed }) (λ _. record { good = z })

  -- what the mode asks of the session, whatever the idle count
  asks : (s : Session) → Good im c l s → (n : ℕ) → s.mode ≡ mode.Password n → entry_fits im (cursor_line im s.here) s.typed n ≡ true
  unfolding mode_fits
  asks s g n m = rw m at g.mode

  -- every event of an entry
  pub entry_keeps : (s : Session) → Good im c l s → (n e : ℕ) → s.mode ≡ mode.Password n → Keeps im c l (entry_step im s n e)
  unfolding entry_step
  entry_keeps s g n e m =
      let z = idle_good im c l s g 0 in
      by_keeps im c l _ (λ _. wait_keeps s g n (asks s g n m))
      (λ _. by_keeps im c l _ (λ _. record { good = browsing_good im c l _ z s.typed g.sized.typed })
      (λ _. by_keeps im c l _ (λ k. digit_keeps (with_idle s 0) z n (asks (with_idle s 0) z n m) e (leb-true e 9 k)) (λ _. record { good = z })))
