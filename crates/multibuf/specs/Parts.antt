-- Two or three buffers, each in its part, and how they change their parts.
use Rattle.std.specs.Prelude.{ℕ, Option, Some, None, IfSome, []}
use Rattle.frame.specs.Canvases.{Canvas, canvas}
use Rattle.multibuf.specs.declared.owners.Free.{Free}
use Rattle.multibuf.specs.declared.owners.Back.{Back}
use Rattle.multibuf.specs.declared.owners.Waiting.{Waiting}
use Rattle.multibuf.specs.declared.owners.Shown.{Shown}
use Rattle.multibuf.specs.declared.stock.Stock.{Stock}
use Rattle.multibuf.specs.declared.several.Several.{Several}
use Rattle.multibuf.specs.Owners.{copied, HasSides, waiting_of_back, shown_of_waiting, free_of_waiting, free_of_shown}
use Rattle.multibuf.specs.Stocks.{with_free, without_least}

-- after this one that waited is shown
abbrev pub with_confirmed : Several → Option Waiting → Several
with_confirmed s None = s
with_confirmed s (Some w) = record s {
  shown = shown_of_waiting w;
  waiting = None;
  stock = with_free s.stock (free_of_shown s.shown);
}

abbrev pub several_after_confirm : Several → Several
several_after_confirm s = with_confirmed s s.waiting

-- the free buffers with one that waited
abbrev pub with_replaced : Stock → Option Waiting → Stock
with_replaced stock None = stock
with_replaced stock (Some w) = with_free stock (free_of_waiting w)

-- after this one that was drawn on waits under a number
abbrev pub with_asked : Several → ℕ → Option Back → Several
with_asked s n None = s
with_asked s n (Some b) = record s {
  waiting = Some (waiting_of_back b n);
  back = None;
  stock = with_replaced s.stock s.waiting;
}

abbrev pub several_after_ask : Several → ℕ → Several
several_after_ask s n = with_asked s n s.back

-- the frame that waits, or else the one that is shown
abbrev pub asked_last : Option Waiting → Shown → Canvas
asked_last None s = s.frame
asked_last (Some w) s = w.frame

-- after this free one is drawn on, and begins with the picture that was asked for last
abbrev pub with_begun : Several → Option Free → Several
with_begun s None = s
with_begun s (Some f) = record s {
  back = Some (record {
    frame = copied (asked_last s.waiting s.shown).picture f.frame;
    index = f.index;
  });
  stock = without_least s.stock;
}

abbrev pub several_after_begin : Several → Several
several_after_begin s = with_begun s s.stock.low

-- the frame that is drawn on, where there is one
abbrev pub drawn_on : Option Back → Canvas
drawn_on None = canvas 0 0 [] 0
drawn_on (Some b) = b.frame

-- with another frame that is drawn on
abbrev pub with_frame : Canvas → Back → Back
with_frame c b = record b { frame = c }

abbrev pub with_drawn : Canvas → Option Back → Option Back
with_drawn c None = None
with_drawn c (Some b) = Some (with_frame c b)

-- all frames have these sides
pub record AreEven (w h : ℕ) (s : Several) : Type 0 where
  pub shown : HasSides w h s.shown.frame
  pub waiting : IfSome s.waiting (λ x. HasSides w h x.frame)
  pub back : IfSome s.back (λ x. HasSides w h x.frame)
  pub low : IfSome s.stock.low (λ x. HasSides w h x.frame)
  pub high : IfSome s.stock.high (λ x. HasSides w h x.frame)
