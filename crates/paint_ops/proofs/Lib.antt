pub mod CallerLemmas
mod CanvasLemmas
mod CellLemmas
mod ColumnLemmas
mod FillLemmas
mod PaneLemmas
mod PenLemmas
mod RowLemmas
mod ScreenLemmas
mod SpanLemmas
mod StripLemmas
mod TextLemmas
