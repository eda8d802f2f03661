pub mod StagesRead
