pub mod StaysOutLaws
