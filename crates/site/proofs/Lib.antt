pub mod FirstMonth
